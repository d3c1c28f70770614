-- Numbers each within a mask of its own, the masks having no bit in common: their union has of each mask the number within it (`union-own`).
-- Assumes nothing.
use mathlib.Core.Path.{◌≡◌, sym, ap, ◌∙◌}
use mathlib.Core.List.{List, [], ◌∷◌}
use Prim.Native.Nat.{ℕ, zero, suc, ◌+◌, ◌*◌, ◌/◌, ◌%◌, ◌^◌, ◌<◌, ◌≤◌, min}
use native.Mathlib.Nat.{zero-div}
use native.Mathlib.Decide.{ℕ_discrete}
use native.Mathlib.Omega.{arith}
use lib.ListN.{length, get_or}
use lib.Bits.{bit_and, and_shr, and_step}
use Rattle.masks.specs.Masks.{bit_at, union_with}
use Rattle.masks.proofs.Bits.{bit-less, bit-zero, bit-suc}
use Rattle.masks.proofs.Exact.{owners, union-bit}

bits_below : (n a b : ℕ) → a ≤ n → b ≤ n → ((i : ℕ) → bit_at a i ≡ bit_at b i) → a ≡ b
bits_below zero a b l m h = omega arith
bits_below (suc n) a b l m h =
    let low : a % 2 ≡ b % 2 = sym (bit-zero a) ∙ h 0 ∙ bit-zero b in
    let high = bits_below n (a / 2) (b / 2) (omega arith) (omega arith) (λ i. sym (bit-suc a i) ∙ h (suc i) ∙ bit-suc b i) in
    omega arith

bits-same : (a b : ℕ) → ((i : ℕ) → bit_at a i ≡ bit_at b i) → a ≡ b
bits-same a b h = bits_below (a + b) a b (omega arith) (omega arith) h

and-bit : (a b i : ℕ) → bit_at (bit_and a b) i ≡ min (bit_at a i) (bit_at b i)
and-bit a b i =
    ap (λ (x : ℕ). x % 2) (and_shr a b i ∙ and_step (a / 2 ^ i) (b / 2 ^ i)) ∙ odd (bit_and (a / 2 ^ i / 2) (b / 2 ^ i / 2)) (bit_at a i) (bit_at b i) (bit-less a i)
  where
    odd : (x y z : ℕ) → y < 2 → (x * 2 + min y z) % 2 ≡ min y z
    odd x y z l = omega arith

-- ---- numbers within masks, at bit i
module _ (i : ℕ) where
  owners-at : (ms : List ℕ) (b : ℕ) → b < length ms → bit_at (get_or ms b 0) i ≤ owners ms i
  unfolding owners
  owners-at [] b l = absurd (omega arith)
  owners-at (m ∷ ms) zero l = omega arith
  owners-at (m ∷ ms) (suc b) l = omega (arith, owners-at ms b (omega arith))

  owners-fewer : (xs ms : List ℕ) → length xs ≡ length ms → ((b : ℕ) → b < length xs → bit_at (get_or xs b 0) i ≤ bit_at (get_or ms b 0) i) → owners xs i ≤ owners ms i
  unfolding owners
  owners-fewer [] [] e h = omega arith
  owners-fewer [] (m ∷ ms) e h = absurd (omega arith)
  owners-fewer (x ∷ xs) [] e h = absurd (omega arith)
  owners-fewer (x ∷ xs) (m ∷ ms) e h = omega (arith, h 0 (omega arith), owners-fewer xs ms (omega arith) (λ b l. h (suc b) (omega arith)))

  owners-own : (xs ms : List ℕ) → length xs ≡ length ms → ((b : ℕ) → b < length xs → bit_at (get_or xs b 0) i ≤ bit_at (get_or ms b 0) i) → owners ms i ≤ 1
      → (b : ℕ) → b < length xs → bit_at (get_or ms b 0) i ≡ 1 → owners xs i ≡ bit_at (get_or xs b 0) i
  unfolding owners
  owners-own [] ms e h o b l q = absurd (omega arith)
  owners-own (x ∷ xs) [] e h o b l q = absurd (omega arith)
  owners-own (x ∷ xs) (m ∷ ms) e h o zero l q = omega (arith, owners-fewer xs ms (omega arith) (λ b l. h (suc b) (omega arith)))
  owners-own (x ∷ xs) (m ∷ ms) e h o (suc b) l q =
      let n = owners-at ms b (omega arith) in
      let z = h 0 (omega arith) in
      omega (arith, owners-own xs ms (omega arith) (λ b l. h (suc b) (omega arith)) (omega arith) b (omega arith) q)

pub union-own : (xs ms : List ℕ) → length xs ≡ length ms → ((b : ℕ) → b < length xs → bit_and (get_or xs b 0) (get_or ms b 0) ≡ get_or xs b 0)
    → ((b i : ℕ) → b < length ms → bit_at (get_or ms b 0) i ≡ 1 → owners ms i ≤ 1)
    → (b : ℕ) → b < length xs → get_or xs b 0 ≡ bit_and (union_with 0 xs) (get_or ms b 0)
union-own xs ms e inside apart b l = bits-same (get_or xs b 0) (bit_and (union_with 0 xs) (get_or ms b 0)) (λ i. go i (ℕ_discrete (bit_at (get_or ms b 0) i) 1))
  where
    less : (i c : ℕ) → c < length xs → bit_at (get_or xs c 0) i ≤ bit_at (get_or ms c 0) i
    less i c h = omega (arith, and-bit (get_or xs c 0) (get_or ms c 0) i, ap (λ (x : ℕ). bit_at x i) (inside c h))

    go : (i : ℕ) → Dec (bit_at (get_or ms b 0) i ≡ 1) → bit_at (get_or xs b 0) i ≡ bit_at (bit_and (union_with 0 xs) (get_or ms b 0)) i
    go i (yes q) =
        let z : bit_at 0 i ≡ 0 = ap (λ (x : ℕ). x % 2) (zero-div (2 ^ i)) in
        omega (
          arith,
          and-bit (union_with 0 xs) (get_or ms b 0) i,
          union-bit 0 xs i,
          owners-own i xs ms e (less i) (apart b i (omega arith) q) b l q,
          bit-less (get_or xs b 0) i,
        )
    go i (no q) =
        let z = bit-less (get_or ms b 0) i in
        let y = less i b l in
        omega (arith, and-bit (union_with 0 xs) (get_or ms b 0) i)
