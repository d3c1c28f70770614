-- Scores added from the first board on, one store a turn: `added_to b` is what the loop has after b turns. And how large scores are.
-- Assumes nothing.
use mathlib.Core.Path.{◌≡◌, refl, ap}
use mathlib.Core.List.{List, [], ◌∷◌}
use Prim.Native.Nat.{ℕ, zero, suc, ◌+◌, ◌<◌, ◌≤◌}
use native.Mathlib.Omega.{arith}
use lib.ListN.{length, set, get_or, replicate}
use Rattle.lists.proofs.Stretches.{zeros-at}
use Rattle.scores.specs.Scored.{added, counts_below, Few}

-- the first n counts added, the others as they were
unfoldable pub added_to : ℕ → List ℕ → List ℕ → List ℕ
added_to zero xs ys = xs
added_to (suc n) [] ys = []
added_to (suc n) (x ∷ xs) [] = x ∷ xs
added_to (suc n) (x ∷ xs) (y ∷ ys) = (x + y) ∷ added_to n xs ys

pub added_none : (xs ys : List ℕ) → xs ≡ added_to 0 xs ys
unfolding added_to
added_none xs ys = refl

-- what is not added yet
pub added-at : (n : ℕ) (xs ys : List ℕ) → get_or (added_to n xs ys) n 0 ≡ get_or xs n 0
unfolding added_to
added-at zero xs ys = refl
added-at (suc n) [] ys = refl
added-at (suc n) (x ∷ xs) [] = refl
added-at (suc n) (x ∷ xs) (y ∷ ys) = added-at n xs ys

-- one more
pub added_more : (n : ℕ) (xs ys : List ℕ) → n < length xs → n < length ys
    → set (added_to n xs ys) n (get_or xs n 0 + get_or ys n 0) ≡ added_to (suc n) xs ys
unfolding added_to
added_more n [] ys h k = absurd (omega arith)
added_more n (x ∷ xs) [] h k = absurd (omega arith)
added_more zero (x ∷ xs) (y ∷ ys) h k = refl
added_more (suc n) (x ∷ xs) (y ∷ ys) h k = ap ((x + y) ∷◌) (added_more n xs ys (omega arith) (omega arith))

-- all of them
pub added-all : (n : ℕ) (xs ys : List ℕ) → length xs ≡ n → length ys ≡ n → added_to n xs ys ≡ added xs ys
unfolding added_to added
added-all zero [] ys h k = refl
added-all zero (x ∷ xs) ys h k = absurd (omega arith)
added-all (suc n) [] ys h k = refl
added-all (suc n) (x ∷ xs) [] h k = absurd (omega arith)
added-all (suc n) (x ∷ xs) (y ∷ ys) h k = ap ((x + y) ∷◌) (added-all n xs ys (omega arith) (omega arith))

-- ---- how large
added-under : (xs ys : List ℕ) (b : ℕ) → get_or (added xs ys) b 0 ≤ get_or xs b 0 + get_or ys b 0
unfolding added
added-under [] ys b = omega arith
added-under (x ∷ xs) [] b = omega arith
added-under (x ∷ xs) (y ∷ ys) zero = omega arith
added-under (x ∷ xs) (y ∷ ys) (suc b) = added-under xs ys b

pub added-few : (xs ys : List ℕ) (m n k : ℕ) → ((b : ℕ) → get_or xs b 0 ≤ m) → ((b : ℕ) → get_or ys b 0 ≤ n) → m + n ≤ k
    → (b : ℕ) → get_or (added xs ys) b 0 ≤ k
added-few xs ys m n k h g l b = omega (arith, added-under xs ys b, h b, g b)

pub sums-few : (xs ys : List ℕ) → ((b : ℕ) → get_or xs b 0 + get_or ys b 0 < counts_below) → Few (added xs ys)
sums-few xs ys h b = omega (arith, added-under xs ys b, h b)

pub zeros-few : (n b : ℕ) → get_or (replicate n 0) b 0 ≤ 1
zeros-few n b = omega (arith, zeros-at n b)

pub one-few : (xs : List ℕ) (c b : ℕ) → ((j : ℕ) → get_or xs j 0 ≤ 1) → get_or (set xs c 1) b 0 ≤ 1
one-few [] c b h = h b
one-few (x ∷ xs) zero zero h = omega arith
one-few (x ∷ xs) zero (suc b) h = h (suc b)
one-few (x ∷ xs) (suc c) zero h = h 0
one-few (x ∷ xs) (suc c) (suc b) h = one-few xs c b (λ j. h (suc j))
