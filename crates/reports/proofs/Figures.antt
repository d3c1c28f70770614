-- Figures over the numbers of two lists: what is chosen of both (`chosen-both`), and their sum (`summed-both`). Both go by `of_both`, which
-- may be put together from either side (`of-both-assoc`), and in either order (`of-both-comm`). Assumes nothing.
use mathlib.Core.Path.{◌≡◌, refl, sym, ap, ap₂, ◌∙◌}
use mathlib.Core.List.{List, [], ◌∷◌, ◌++◌}
use Prim.Native.Nat.{ℕ, zero, suc, ◌+◌, min, max}
use native.Mathlib.Omega.{arith}
use lib.ListN.{length, length-append}
use borrow.Author.Tests.{ne_eqb}
use Rattle.lists.specs.Tests.{pick}
use Rattle.reports.specs.Report.{of_both, chosen, summed}

-- an operation that may be put together from either side
abbrev pub Assoc : (ℕ → ℕ → ℕ) → Type 0
Assoc op = (a b c : ℕ) → op (op a b) c ≡ op a (op b c)

pub min_assoc : Assoc min
min_assoc a b c = omega arith

pub max_assoc : Assoc max
max_assoc a b c = omega arith

-- and in either order
abbrev pub Comm : (ℕ → ℕ → ℕ) → Type 0
Comm op = (a b : ℕ) → op a b ≡ op b a

module _ (op : ℕ → ℕ → ℕ) where
  -- one side has none
  pub of_none : (a n b : ℕ) → of_both op 0 a n b ≡ b
  unfolding of_both pick
  of_none a n b = refl

  pub of-first : (m a b : ℕ) → of_both op (suc m) a 0 b ≡ a
  unfolding of_both pick
  of-first m a b = rw (ne_eqb (suc m) 0 (λ e. omega arith))

  pub of_some : (m a n b : ℕ) → of_both op (suc m) a (suc n) b ≡ op a b
  unfolding of_both pick
  of_some m a n b = rw (ne_eqb (suc m) 0 (λ e. omega arith), ne_eqb (suc n) 0 (λ e. omega arith))

  -- where both have none they have to stand for the same
  pub of-both-comm : Comm op → (m a n b : ℕ) → (m ≡ 0 → n ≡ 0 → a ≡ b) → of_both op m a n b ≡ of_both op n b m a
  of-both-comm comm zero a zero b h = of_none a 0 b ∙ sym (h refl refl) ∙ sym (of_none b 0 a)
  of-both-comm comm zero a (suc n) b h = of_none a (suc n) b ∙ sym (of-first n b a)
  of-both-comm comm (suc m) a zero b h = of-first m a b ∙ sym (of_none b (suc m) a)
  of-both-comm comm (suc m) a (suc n) b h = of_some m a n b ∙ comm a b ∙ sym (of_some n b m a)

  module _ (assoc : Assoc op) where
    pub of-both-assoc : (m a n b k c : ℕ) → of_both op (m + n) (of_both op m a n b) k c ≡ of_both op m a (n + k) (of_both op n b k c)
    of-both-assoc zero a n b k c = ap₂ (λ (i j : ℕ). of_both op i j k c) (omega arith) (of_none a n b) ∙ sym (of_none a (n + k) (of_both op n b k c))
    of-both-assoc (suc m) a zero b k c =
        ap₂ (λ (i j : ℕ). of_both op i j k c) (omega arith) (of-first m a b)
        ∙ sym (ap₂ (λ (i j : ℕ). of_both op (suc m) a i j) (omega arith) (of_none b k c))
    of-both-assoc (suc m) a (suc n) b zero c =
        let e : suc m + suc n ≡ suc (m + suc n) = omega arith in
        let f : suc n + 0 ≡ suc n = omega arith in
        ap (λ (i : ℕ). of_both op i (of_both op (suc m) a (suc n) b) 0 c) e
        ∙ of-first (m + suc n) (of_both op (suc m) a (suc n) b) c
        ∙ sym (ap₂ (λ (i j : ℕ). of_both op (suc m) a i j) f (of-first n b c))
    of-both-assoc (suc m) a (suc n) b (suc k) c =
        let e : suc m + suc n ≡ suc (m + suc n) = omega arith in
        let f : suc n + suc k ≡ suc (n + suc k) = omega arith in
        ap₂ (λ (i j : ℕ). of_both op i j (suc k) c) e (of_some m a n b)
        ∙ of_some (m + suc n) (op a b) k c
        ∙ assoc a b c
        ∙ sym (ap₂ (λ (i j : ℕ). of_both op (suc m) a i j) f (of_some n b k c) ∙ of_some m a (n + suc k) (op b c))

    pub chosen-both : (xs ys : List ℕ) → chosen op (xs ++ ys) ≡ of_both op (length xs) (chosen op xs) (length ys) (chosen op ys)
    unfolding chosen
    chosen-both [] ys = sym (of_none 0 (length ys) (chosen op ys))
    chosen-both (x ∷ xs) ys =
        let e : 1 + length xs ≡ suc (length xs) = omega arith in
        ap₂ (λ (i j : ℕ). of_both op 1 x i j) (length-append xs ys) (chosen-both xs ys)
        ∙ sym (of-both-assoc 1 x (length xs) (chosen op xs) (length ys) (chosen op ys))
        ∙ ap (λ (i : ℕ). of_both op i (of_both op 1 x (length xs) (chosen op xs)) (length ys) (chosen op ys)) e

pub summed-both : (xs ys : List ℕ) → summed (xs ++ ys) ≡ summed xs + summed ys
unfolding summed
summed-both [] ys = omega arith
summed-both (x ∷ xs) ys = let e = summed-both xs ys in omega arith
