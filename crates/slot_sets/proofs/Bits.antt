-- Bits of a number: one set besides (`bit-set`), and all of them (`bit-all`). Assumes nothing.
use mathlib.Core.Path.{◌≡◌, refl, sym, ap, ◌∙◌}
use mathlib.Core.Bool.{Bool, true, false}
use Prim.Native.Nat.{ℕ, suc, ◌+◌, ◌-◌, ◌/◌, ◌%◌, ◌^◌, ◌<◌, max}
use native.Mathlib.Nat.{one-mul, div-eq_of_lt, pow-succ'}
use native.Mathlib.Omega.{arith}
use native.Mathlib.Decide.{ℕ_discrete, dec_lt}
use lib.Dec.{eqb}
use lib.Pow.{pow-lt, pow-add, shl-shr}
use lib.Bits.{bit_or}
use borrow.Author.Tests.{lt-ltb, eq-eqb, ne_eqb}
use Rattle.lists.specs.Tests.{pick, either, bit}
use Rattle.lists.proofs.Tests.{either-right}
use Rattle.masks.specs.Masks.{bit_at}
use Rattle.masks.proofs.Bits.{bit-less, or-bit}
use Rattle.masks.proofs.Exact.{below, low-bits-bit}

pub either-false : (b : Bool) → either b false ≡ b
unfolding either
either-false true = refl
either-false false = refl

-- ---- the bits of a power of 2
power-same : (m : ℕ) → bit_at (2 ^ m) m ≡ 1
power-same m = ap (λ (x : ℕ). x % 2) (ap (λ (x : ℕ). x / 2 ^ m) (sym (one-mul (2 ^ m))) ∙ shl-shr 1 m)

power-above : (m i : ℕ) → m < i → bit_at (2 ^ m) i ≡ 0
power-above m i h = ap (λ (x : ℕ). x % 2) (div-eq_of_lt (pow-lt h))

power_below : (m i : ℕ) → i < m → bit_at (2 ^ m) i ≡ 0
power_below m i h =
    let j = m - suc i in
    let e : m ≡ suc j + i = omega arith in
    ap (λ (q : ℕ). bit_at (2 ^ q) i) e
    ∙ ap (λ (x : ℕ). x / 2 ^ i % 2) (pow-add 2 (suc j) i)
    ∙ ap (λ (x : ℕ). x % 2) (shl-shr (2 ^ suc j) i)
    ∙ even j
  where
    even : (j : ℕ) → 2 ^ suc j % 2 ≡ 0
    even j = rw (pow-succ' 2 j) (omega arith)

-- ---- one bit set besides
pub bit-set : (x m i : ℕ) → bit (bit_or x (2 ^ m)) i ≡ either (bit x i) (eqb m i)
unfolding bit either
bit-set x m i =
    ap (λ (y : ℕ). eqb y 1) (or-bit x (2 ^ m) i)
    ∙ elim (ℕ_discrete m i) [
      | yes e ↦ (let z : bit_at (2 ^ m) i ≡ 1 = ap (λ (j : ℕ). bit_at (2 ^ m) j) (sym e) ∙ power-same m in there z (eq-eqb m i e))
      | no n ↦
          (let z : bit_at (2 ^ m) i ≡ 0 =
          elim (dec_lt m i) [ yes h ↦ power-above m i h | no h ↦ power_below m i (omega arith) ] in
          absent z (ne_eqb m i n))
    ]
  where
    there : bit_at (2 ^ m) i ≡ 1 → eqb m i ≡ true → eqb (max (bit_at x i) (bit_at (2 ^ m) i)) 1 ≡ either (eqb (bit_at x i) 1) (eqb m i)
    there z q = let b = bit-less x i in let e : max (bit_at x i) (bit_at (2 ^ m) i) ≡ 1 = omega arith in rw (e, q) (sym (either-right (eqb (bit_at x i) 1)))

    absent : bit_at (2 ^ m) i ≡ 0 → eqb m i ≡ false → eqb (max (bit_at x i) (bit_at (2 ^ m) i)) 1 ≡ either (eqb (bit_at x i) 1) (eqb m i)
    absent z q = let e : max (bit_at x i) (bit_at (2 ^ m) i) ≡ bit_at x i = omega arith in rw (e, q) (sym (either-false (eqb (bit_at x i) 1)))

-- ---- all bits of a width
pub bit-all : (n i : ℕ) → i < n → bit (2 ^ n - 1) i ≡ true
unfolding bit below pick
bit-all n i h = ap (λ (x : ℕ). eqb x 1) (low-bits-bit n i) ∙ rw (lt-ltb i n h)
