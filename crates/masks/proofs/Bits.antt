-- Bits of a number: what the machine's counts of ones and of trailing zeros are, in the terms of specs/, and the sum and the
-- union of a list of masks. Others use `bit-less`, `bit-zero`, `bit-suc`, `sum_same`, `sum-few`, `or-bit` and `one_shifted`. Assumes nothing.
use mathlib.Core.Path.{◌≡◌, refl, sym, ap, ap₂, ◌∙◌}
use mathlib.Core.List.{List, [], ◌∷◌}
use Prim.Native.Nat.{ℕ, zero, suc, ◌+◌, ◌*◌, ◌/◌, ◌%◌, ◌^◌, ◌<◌, ◌≤◌, max}
use Rattle.std.specs.Prelude.{fold, sum_by}
use Rattle.std.proofs.lemmas.List.Sums.{sum_by-cons}
use native.Mathlib.Nat.{one-mul, div-div-eq-div-mul, pow-succ', div-one, mod-lt, zero-lt-suc, mul-add-mod_self_right, mod-eq_of_lt}
use native.Mathlib.Omega.{arith}
use native.Mathlib.Numerals.{add-one}
use lib.Pow.{shr_lt, shl_exact}
use lib.Bits.{bit_or, or_step, or_shr}
use lib.Count.{ones, ones_step, count_trailing_zeros, under}
use lib.ListN.{length, get_or}
use Rattle.limits.specs.Limits.{propositions_most}
use Rattle.masks.specs.Masks.{bit_at, sum_to, ones_of, sum_ones, union_with}

-- ---- one bit
pub bit-less : (m i : ℕ) → bit_at m i < 2
bit-less m i = mod-lt (m / 2 ^ i) (zero-lt-suc 1)

pub bit-zero : (m : ℕ) → bit_at m 0 ≡ m % 2
bit-zero m = ap (λ (x : ℕ). x % 2) (div-one m)

pub bit-suc : (m i : ℕ) → bit_at m (suc i) ≡ bit_at (m / 2) i
bit-suc m i = ap (λ (x : ℕ). x % 2) (ap (λ (x : ℕ). m / x) (pow-succ' 2 i) ∙ sym (div-div-eq-div-mul m 2 (2 ^ i)))

half-less : (k m : ℕ) → m < 2 ^ suc k → m / 2 < 2 ^ k
half-less k m h = shr_lt k 1 (rw add-one h)

-- ---- sums
pub sum_same : (k : ℕ) (f g : ℕ → ℕ) → ((i : ℕ) → i < k → f i ≡ g i) → sum_to k f ≡ sum_to k g
unfolding sum_to
sum_same zero f g h = refl
sum_same (suc k) f g h = ap₂ (λ (x y : ℕ). x + y) (sum_same k f g (λ i l. h i (omega arith))) (h k (omega arith))

pub sum-front : (k : ℕ) (f : ℕ → ℕ) → sum_to (suc k) f ≡ f 0 + sum_to k (λ i. f (suc i))
unfolding sum_to
sum-front zero f = omega arith
sum-front (suc k) f = omega (arith, sum-front k f)

pub sum-few : (k : ℕ) (f : ℕ → ℕ) → ((i : ℕ) → f i < 2) → sum_to k f ≤ k
unfolding sum_to
sum-few zero f h = omega arith
sum-few (suc k) f h = omega (arith, sum-few k f h, h k)

-- ---- the machine's count of ones
ones-bits : (k m : ℕ) → m < 2 ^ k → ones m ≡ sum_to k (bit_at m)
unfolding sum_to ones
ones-bits zero zero h = refl
ones-bits zero (suc m) h = absurd (omega arith)
ones-bits (suc k) m h =
    ones_step m
    ∙ ap₂ (λ (x y : ℕ). x + y) (sym (bit-zero m)) (ones-bits k (m / 2) (half-less k m h) ∙ sum_same k _ _ (λ i l. sym (bit-suc m i)))
    ∙ sym (sum-front k (bit_at m))

pub ones_is : (m : ℕ) → m < 2 ^ 64 → ones m ≡ ones_of m
unfolding ones_of
ones_is m h = ones-bits 64 m h

pub ones-few : (m : ℕ) → ones_of m ≤ propositions_most
unfolding ones_of
ones-few m = sum-few propositions_most (bit_at m) (bit-less m)

-- ---- the machine's count of trailing zeros
pub trailing-is : (k n : ℕ) → 0 < n → n < 2 ^ k
    → (count_trailing_zeros k n < k) × (bit_at n (count_trailing_zeros k n) ≡ 1) × ((j : ℕ) → j < count_trailing_zeros k n → bit_at n j ≡ 0)
unfolding count_trailing_zeros
trailing-is zero n p h = absurd (omega arith)
trailing-is (suc k) n p h = go (λ q. trailing-is k (n / 2) q (half-less k n h)) (n % 2) refl
  where
    Low : ℕ → ℕ → Type 0
    Low m t = (t < k) × (bit_at m t ≡ 1) × ((j : ℕ) → j < t → bit_at m j ≡ 0)

    go : (0 < n / 2 → Low (n / 2) (count_trailing_zeros k (n / 2))) → (d : ℕ) → n % 2 ≡ d
        → (under d (count_trailing_zeros k (n / 2)) < suc k) × (bit_at n (under d (count_trailing_zeros k (n / 2))) ≡ 1)
        × ((j : ℕ) → j < under d (count_trailing_zeros k (n / 2)) → bit_at n j ≡ 0)
    go rest zero e =
        let r = rest (omega arith) in
        (omega (arith, r.0), bit-suc n _ ∙ r.1, λ j l. low r.2 j l)
      where
        low : {t : ℕ} → ((j : ℕ) → j < t → bit_at (n / 2) j ≡ 0) → (j : ℕ) → j < suc t → bit_at n j ≡ 0
        low r zero l = bit-zero n ∙ e
        low r (suc j) l = bit-suc n j ∙ r j (omega arith)
    go rest (suc d) e = (omega arith, bit-zero n ∙ omega (arith, e), λ j l. absurd (omega arith))

-- ---- the union
pub or-bit : (a b i : ℕ) → bit_at (bit_or a b) i ≡ max (bit_at a i) (bit_at b i)
or-bit a b i =
    ap (λ (x : ℕ). x % 2) (or_shr a b i ∙ or_step (a / 2 ^ i) (b / 2 ^ i))
    ∙ mul-add-mod_self_right _ 2 _
    ∙ mod-eq_of_lt (omega (arith, bit-less a i, bit-less b i))

-- ---- a one, shifted
pub one_shifted : (p : ℕ) → p < propositions_most → (1 * 2 ^ p) % 2 ^ 64 ≡ 2 ^ p
one_shifted p h = shl_exact 1 p 64 (omega arith) (omega arith) ∙ one-mul (2 ^ p)

-- ---- sums and unions over a list
pub sum_ones_is : (ms : List ℕ) → ((i : ℕ) → i < length ms → get_or ms i 0 < 2 ^ 64) → sum_by ones ms ≡ sum_ones ms
unfolding sum_ones
sum_ones_is [] h = refl
sum_ones_is (m ∷ ms) h = sum_by-cons ones m ms ∙ ap₂ (λ (x y : ℕ). x + y) (ones_is m (h 0 (omega arith))) (sum_ones_is ms (λ i l. h (suc i) (omega arith)))

pub union_is : (a : ℕ) (ms : List ℕ) → fold bit_or a ms ≡ union_with a ms
unfolding union_with
union_is a [] = refl
union_is a (m ∷ ms) = union_is (bit_or a m) ms
