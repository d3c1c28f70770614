-- The runs for which a test holds: those of two lists together (`those-both`), of a list and one run more, for which it holds
-- (`those-hit`) or does not (`those-miss`), of a list where it holds for none (`those-no`), of runs that a function makes where it holds for all
-- or none (`those-map`); and how many they are (`those-none`, `those-count`, `those-few`). Assumes nothing.
use mathlib.Core.Path.{◌≡◌, refl, ap, ◌∙◌}
use mathlib.Core.Bool.{Bool, true, false}
use mathlib.Core.List.{List, [], ◌∷◌, ◌++◌, map, append-nil}
use Prim.Native.Nat.{ℕ, ◌+◌, ◌≤◌}
use native.Mathlib.Omega.{arith}
use lib.ListN.{length}
use Rattle.lists.specs.Tests.{pick}
use Rattle.reports.specs.Runs.{Run}
use Rattle.reports.specs.Report.{those}
use Rattle.reports.specs.Nights.{Each}
use Rattle.reports.proofs.Sums.{one_if, one-few}

-- of two lists together
pub those-both : (p : Run → Bool) (xs ys : List Run) → those p (xs ++ ys) ≡ those p xs ++ those p ys
unfolding those pick
those-both p [] ys = refl
those-both p (x ∷ xs) ys = go (p x) (those-both p xs ys)
  where
    go : (b : Bool) → those p (xs ++ ys) ≡ those p xs ++ those p ys → pick b (x ∷ those p (xs ++ ys)) (those p (xs ++ ys)) ≡ pick b (x ∷ those p xs) (those p xs) ++ those p ys
    go true e = ap (x ∷◌) e
    go false e = e

-- one run more
pub those-hit : (p : Run → Bool) (xs : List Run) (x : Run) → p x ≡ true → those p (xs ++ (x ∷ [])) ≡ those p xs ++ (x ∷ [])
unfolding those pick
those-hit p xs x e = those-both p xs (x ∷ []) ∙ ap (λ (b : Bool). those p xs ++ pick b (x ∷ []) []) e

pub those-miss : (p : Run → Bool) (xs : List Run) (x : Run) → p x ≡ false → those p (xs ++ (x ∷ [])) ≡ those p xs
unfolding those pick
those-miss p xs x e = those-both p xs (x ∷ []) ∙ ap (λ (b : Bool). those p xs ++ pick b (x ∷ []) []) e ∙ append-nil (those p xs)

-- where it holds for none
pub those-no : (p : Run → Bool) (xs : List Run) → Each (λ x. p x ≡ false) xs → those p xs ≡ []
unfolding those pick
those-no p [] h = refl
those-no p (x ∷ xs) h = rw h.0 (those-no p xs h.1)

-- of what a function makes, where the test has one outcome
pub those-map : (p : Run → Bool) (g : ℕ → Run) (b : Bool) → ((t : ℕ) → p (g t) ≡ b) → (ts : List ℕ) → those p (map g ts) ≡ pick b (map g ts) []
unfolding those pick
those-map p g true h [] = refl
those-map p g false h [] = refl
those-map p g true h (t ∷ ts) = rw (h t) (ap (g t ∷◌) (those-map p g true h ts))
those-map p g false h (t ∷ ts) = rw (h t) (those-map p g false h ts)

-- how many of them there are, run by run
pub those-none : (p : Run → Bool) → length (those p []) ≡ 0
unfolding those
those-none p = refl

pub those-count : (p : Run → Bool) (x : Run) (xs : List Run) → length (those p (x ∷ xs)) ≡ one_if (p x) + length (those p xs)
unfolding those pick one_if
those-count p x xs = go (p x)
  where
    go : (b : Bool) → length (pick b (x ∷ those p xs) (those p xs)) ≡ one_if b + length (those p xs)
    go true = omega arith
    go false = omega arith

pub those-few : (p : Run → Bool) (xs : List Run) → length (those p xs) ≤ length xs
those-few p [] = omega (arith, those-none p)
those-few p (x ∷ xs) = omega (arith, those-count p x xs, one-few (p x), those-few p xs)
