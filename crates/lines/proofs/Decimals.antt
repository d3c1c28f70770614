-- The digits of a number: those that the kit's `decimal` gives are the ones of the definition (`number_is`), and they are no more than those
-- of a power of ten above the number (`decimal-short`). Assumes nothing.
use mathlib.Core.Path.{◌≡◌, refl, sym, ap, ◌∙◌}
use mathlib.Core.List.{List, [], ◌∷◌}
use Prim.Native.Nat.{ℕ, zero, suc, ◌+◌, ◌-◌, ◌/◌, ◌%◌, ◌^◌, ◌<◌, ◌≤◌}
use native.Mathlib.Nat.{pow-le-pow_right}
use native.Mathlib.Decide.{dec_lt}
use native.Mathlib.Omega.{arith}
use lib.ListN.{length, take, length-append}
use lib.Dec.{ltb}
use borrow.Author.Tests.{ltb-true, ltb-false}
use Rattle.lists.proofs.Tests.{pick-elim}
use Rattle.io.specs.Digits.{hex_digit_ascii, last_digits, IsDigitCount}
use Rattle.lines.specs.Lines.{places, decimal_of}

-- powers of ten grow
tens : (i j : ℕ) → i ≤ j → 10 ^ i ≤ 10 ^ j
tens i j h = pow-le-pow_right {n = 10} (omega arith) {i = i} {j = j} h

-- the fewest digits that hold a number are as many as the definition counts
places_is : (f n k : ℕ) → n < 10 ^ suc f → IsDigitCount 10 1 n k → places f n ≡ k
unfolding places
places_is zero n k h w =
    elim (dec_lt 1 k) [
      | yes l ↦ let few = w.2 l in let grown = tens 1 (k - 1) (omega arith) in absurd (omega arith)
      | no l ↦ let some = w.0 in omega arith
    ]
places_is (suc f) n k h w =
    pick-elim (λ (m : ℕ). m ≡ k) (ltb n (10 ^ suc f)) (places f n) (2 + f) (λ q. places_is f n k (ltb-true n (10 ^ suc f) q) w)
    (λ q. most (ltb-false n (10 ^ suc f) q) (dec_lt (suc f) k) (dec_lt k (3 + f)))
  where
    most : 10 ^ suc f ≤ n → Dec (suc f < k) → Dec (k < 3 + f) → 2 + f ≡ k
    most g (yes a) (yes b) = omega arith
    most g (yes a) (no b) = let few = w.2 (omega arith) in let grown = tens (suc (suc f)) (k - 1) (omega arith) in absurd (omega arith)
    most g (no a) b = let holds = w.1 in let grown = tens k (suc f) (omega arith) in absurd (omega arith)

decimal-is : (n k : ℕ) (out : List ℕ) → n < 2 ^ 64 → IsDigitCount 10 1 n k → take k out ≡ last_digits 10 k n → take k out ≡ decimal_of n
unfolding decimal_of
decimal-is n k out h w e = e ∙ ap (λ (j : ℕ). last_digits 10 j n) (sym (places_is 19 n k (omega arith) w))

-- the digits that the kit's `decimal` has put in front of `out`
pub number_is : (n k : ℕ) (out : List ℕ) → n < 2 ^ 64 → IsDigitCount 10 1 n k → take k out ≡ last_digits 10 k n → take (k - 0) out ≡ decimal_of n
number_is n k out h w e = let same : k - 0 ≡ k = omega arith in ap (λ (j : ℕ). take j out) same ∙ decimal-is n k out h w e

-- ---- how many
digits-length : (k n : ℕ) → length (last_digits 10 k n) ≡ k
digits-length zero n = refl
digits-length (suc k) n = length-append (last_digits 10 k (n / 10)) (hex_digit_ascii (n % 10) ∷ []) ∙ (let e = digits-length k (n / 10) in omega arith)

places-few : (f n k : ℕ) → 1 ≤ k → n < 10 ^ k → places f n ≤ k
unfolding places
places-few zero n k some h = some
places-few (suc f) n k some h =
    pick-elim (λ (m : ℕ). m ≤ k) (ltb n (10 ^ suc f)) (places f n) (2 + f) (λ q. places-few f n k some h) (λ q. above (ltb-false n (10 ^ suc f) q) (dec_lt (suc f) k))
  where
    above : 10 ^ suc f ≤ n → Dec (suc f < k) → 2 + f ≤ k
    above g (yes l) = omega arith
    above g (no l) = let grown = tens k (suc f) (omega arith) in absurd (omega arith)

pub decimal-short : (n k : ℕ) → 1 ≤ k → n < 10 ^ k → length (decimal_of n) ≤ k
unfolding decimal_of
decimal-short n k some h = let e = digits-length (places 19 n) n in let p = places-few 19 n k some h in omega arith
