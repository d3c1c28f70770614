-- Lists of which every one has a property: one that all things have (`each_all`) or that another implies (`each_more`); two lists together
-- (`each_both`), the values of a function on a list (`each_map`) and below n (`each-listed`), the runs for which a test holds (`each-those`). The
-- property is an explicit argument, since `Each` computes. Assumes nothing.
use mathlib.Core.Bool.{Bool, true, false}
use mathlib.Core.List.{List, [], ◌∷◌, ◌++◌, map}
use Prim.Native.Nat.{ℕ, zero, suc, ◌<◌}
use native.Mathlib.Omega.{arith}
use Rattle.lists.specs.Tests.{pick}
use Rattle.lists.specs.Listed.{listed}
use Rattle.reports.specs.Runs.{Run}
use Rattle.reports.specs.Report.{those}
use Rattle.reports.specs.Nights.{Each}

pub each_more : {A : Type 0} (P Q : A → Type 0) → ((x : A) → P x → Q x) → (xs : List A) → Each P xs → Each Q xs
each_more P Q h [] a = tt
each_more P Q h (x ∷ xs) a = (h x a.0, each_more P Q h xs a.1)

module _ {A : Type 0} (P : A → Type 0) where
  pub each_all : ((x : A) → P x) → (xs : List A) → Each P xs
  each_all h [] = tt
  each_all h (x ∷ xs) = (h x, each_all h xs)

  pub each_both : (xs ys : List A) → Each P xs → Each P ys → Each P (xs ++ ys)
  each_both [] ys a b = b
  each_both (x ∷ xs) ys a b = (a.0, each_both xs ys a.1 b)

  pub each_map : {B : Type 0} (f : B → A) (xs : List B) → Each (λ x. P (f x)) xs → Each P (map f xs)
  each_map f [] a = tt
  each_map f (x ∷ xs) a = (a.0, each_map f xs a.1)

  pub each-listed : (f : ℕ → A) (n : ℕ) → ((k : ℕ) → k < n → P (f k)) → Each P (listed f n)
  unfolding listed
  each-listed f zero h = tt
  each-listed f (suc n) h = (h 0 (omega arith), each-listed (λ k. f (suc k)) n (λ k l. h (suc k) (omega arith)))

pub each-those : (P : Run → Type 0) (p : Run → Bool) (xs : List Run) → Each P xs → Each P (those p xs)
unfolding those pick
each-those P p [] a = tt
each-those P p (x ∷ xs) a = go (p x) (each-those P p xs a.1)
  where
    go : (b : Bool) → Each P (those p xs) → Each P (pick b (x ∷ those p xs) (those p xs))
    go true t = (a.0, t)
    go false t = t
