-- Lists that are written from their end: what stands from a place on. A number put just below makes it one longer (`put-at`, `put-below`),
-- `behind` passes over a run, `head-is` is the first number; `unmoved`, `front_less` and `part-front` are for what stands before the place. Assumes
-- nothing.
use mathlib.Core.Path.{◌≡◌, sym, ap, ap₂, ◌∙◌}
use mathlib.Core.List.{List, [], ◌∷◌, ◌++◌}
use Prim.Native.Nat.{ℕ, zero, suc, ◌+◌, ◌<◌, ◌≤◌}
use native.Mathlib.Omega.{arith}
use lib.ListN.{length, get_or, set, take, drop, length-set, length-drop}
use lib.Seq.{drop-cons, get_or-set_same, drop-set-lt, get_or-take, take-take, take-nil, drop-drop, drop_at}

pub put-at : (p : List ℕ) (j x : ℕ) → j < length p → drop j (set p j x) ≡ x ∷ drop (suc j) p
put-at p j x h =
    let n = length-set p j x in
    drop-cons (set p j x) j 0 (omega arith) ∙ ap₂ ◌∷◌ (get_or-set_same p j x 0 h) (drop-set-lt (suc j) p j x (omega arith))

-- the same by the place above it
pub put-below : (p : List ℕ) (j k x : ℕ) → k ≡ suc j → k ≤ length p → drop j (set p j x) ≡ x ∷ drop k p
put-below p j k x e h = put-at p j x (omega arith) ∙ ap (λ (m : ℕ). x ∷ drop m p) (sym e)

-- behind a run of n numbers
pub behind : (l : List ℕ) (w n : ℕ) (xs ys : List ℕ) → drop w l ≡ xs ++ ys → length xs ≡ n → drop (w + n) l ≡ ys
behind l w n xs ys e h = sym (drop-drop n w l) ∙ ap (drop n) e ∙ drop_at xs ys n h

-- how many there are
pub drop-long : (l m : List ℕ) (w : ℕ) → w ≤ length l → drop w l ≡ m → w + length m ≡ length l
drop-long l m w h e = let d = length-drop w l in let k : length (drop w l) ≡ length m = ap length e in omega arith

-- what stands in front stays
pub unmoved : (p q : List ℕ) (n k : ℕ) → take n p ≡ take n q → k < n → get_or p k 0 ≡ get_or q k 0
unmoved p q n k t h = sym (get_or-take n p k 0 h) ∙ ap (λ (x : List ℕ). get_or x k 0) t ∙ get_or-take n q k 0 h

pub front_less : (p q : List ℕ) (n v : ℕ) → take n p ≡ take n q → v ≤ n → take v p ≡ take v q
front_less p q n v e h = sym (take-take v n p h) ∙ ap (take v) e ∙ take-take v n q h

-- so does a part of it
part_of : (a m n : ℕ) (l : List ℕ) → a + m ≤ n → take m (drop a (take n l)) ≡ take m (drop a l)
part_of zero m n l h = take-take m n l (omega arith)
part_of (suc a) m n [] h = ap (λ (x : List ℕ). take m (drop (suc a) x)) (take-nil n)
part_of (suc a) m zero (b ∷ l) h = absurd (omega arith)
part_of (suc a) m (suc n) (b ∷ l) h = part_of a m n l (omega arith)

pub part-front : (p q : List ℕ) (n a m : ℕ) → take n p ≡ take n q → a + m ≤ n → take m (drop a p) ≡ take m (drop a q)
part-front p q n a m e h = sym (part_of a m n p h) ∙ ap (λ (x : List ℕ). take m (drop a x)) e ∙ part_of a m n q h
