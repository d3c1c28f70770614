-- What a function gives below n, added up: of equal functions (`sum_same`), with one more (`sum_more`), of 0 (`sum-zero`), of two functions
-- together (`sum-two`), one of them and all (`sum-part`), and of a function that is 1 at one place and else 0 (`sum_one`). Assumes nothing.
use mathlib.Core.Path.{◌≡◌, refl, sym, ap, ap₂, ◌∙◌}
use mathlib.Core.Bool.{Bool, true, false}
use mathlib.Core.Logic.{⊎_elim}
use Prim.Native.Nat.{ℕ, zero, suc, ◌+◌, ◌<◌, ◌≤◌}
use native.Mathlib.Nat.{eq-or-lt_of_le, le_of_suc-le-suc}
use native.Mathlib.Numerals.{add-one}
use native.Mathlib.Omega.{arith}
use lib.Dec.{eqb}
use borrow.Author.Tests.{eq-eqb, ne_eqb}
use Rattle.reports.specs.Rows.{sum_below}

pub sum_same : (f g : ℕ → ℕ) (n : ℕ) → ((k : ℕ) → k < n → f k ≡ g k) → sum_below f n ≡ sum_below g n
unfolding sum_below
sum_same f g zero h = refl
sum_same f g (suc n) h = ap₂ ◌+◌ (sum_same f g n (λ k l. h k (omega arith))) (h n (omega arith))

pub sum_more : (f : ℕ → ℕ) (n : ℕ) {t x : ℕ} → t ≡ sum_below f n → x ≡ f n → t + x ≡ sum_below f (n + 1)
unfolding sum_below
sum_more f n e h = ap₂ ◌+◌ e h ∙ ap (sum_below f) (sym (add-one n))

pub sum-zero : (n : ℕ) → sum_below (λ k. 0) n ≡ 0
unfolding sum_below
sum-zero zero = refl
sum-zero (suc n) = omega (arith, sum-zero n)

pub sum-two : (f g : ℕ → ℕ) (n : ℕ) → sum_below (λ k. f k + g k) n ≡ sum_below f n + sum_below g n
unfolding sum_below
sum-two f g zero = refl
sum-two f g (suc n) = omega (arith, sum-two f g n)

-- one of them is no more than all
pub sum-part : (f : ℕ → ℕ) (n k : ℕ) → k < n → f k ≤ sum_below f n
unfolding sum_below
sum-part f zero k l = absurd (omega arith)
sum-part f (suc n) k l =
    ⊎_elim (λ e. let q = ap f e in omega arith) (λ h. let p = sum-part f n k h in omega arith) (eq-or-lt_of_le (le_of_suc-le-suc l))

-- ---- 1 at one place
-- 1 where a test holds
unfoldable pub one_if : Bool → ℕ
one_if true = 1
one_if false = 0

pub one-few : (b : Bool) → one_if b ≤ 1
unfolding one_if
one-few true = omega arith
one-few false = omega arith

here : (i k : ℕ) → i ≡ k → one_if (eqb i k) ≡ 1
unfolding one_if
here i k e = rw (eq-eqb i k e)

elsewhere : (i k : ℕ) → (i ≡ k → ⊥) → one_if (eqb i k) ≡ 0
unfolding one_if
elsewhere i k h = rw (ne_eqb i k h)

sum_past : (i n : ℕ) → n ≤ i → sum_below (λ k. one_if (eqb i k)) n ≡ 0
sum_past i n h = sum_same _ _ n (λ k l. elsewhere i k (λ e. omega arith)) ∙ sum-zero n

pub sum_one : (i n : ℕ) → i < n → sum_below (λ k. one_if (eqb i k)) n ≡ 1
unfolding sum_below
sum_one i zero l = absurd (omega arith)
sum_one i (suc n) l =
    ⊎_elim
    (λ e. ap₂ ◌+◌ (sum_past i n (omega arith)) (here i n e))
    (λ h. ap₂ ◌+◌ (sum_one i n h) (elsewhere i n (λ e. omega arith)))
    (eq-or-lt_of_le (le_of_suc-le-suc l))
