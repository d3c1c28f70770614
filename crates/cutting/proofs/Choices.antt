-- The choice by masks as laying uses it: a board that is chosen is there (`chosen-below`), and where a node has no choice its
-- operands have none (`chosen-one`, `chosen-left`, `chosen-right`). Assumes nothing.
use mathlib.Core.Path.{◌≡◌, refl, sym}
use mathlib.Core.Bool.{Bool, true, false}
use mathlib.Core.List.{List, [], ◌∷◌}
use mathlib.Core.Option.{none, some}
use Prim.Native.Nat.{ℕ, suc, ◌<◌, ◌≤◌}
use native.Mathlib.Omega.{arith}
use lib.ListN.{length}
use lib.Dec.{ltb}
use borrow.Author.Tests.{ltb-false, le-ltb}
use Rattle.lists.specs.Tests.{pick, bit}
use Rattle.lists.proofs.Tests.{no-some}
use Rattle.kinds.specs.declared.Unary.{Unary}
use Rattle.kinds.specs.declared.Binary.{Binary}
use Rattle.ltl.specs.Formula.{Formula, one, two}
use Rattle.network.proofs.Choosing.{chosen-there}
use Rattle.network.specs.Scores.{occurrences, scores_of, highest, chosen}

pub chosen-below : (n : ℕ) (masks : List ℕ) → length masks ≤ n → (f : Formula) (c : ℕ) → chosen masks f ≡ some c → c < n
chosen-below n masks l f c e = let t = chosen-there masks f c e in omega arith

-- ---- where all scores are 0
-- no board has the highest count where none is above 0
abbrev AllNone : List ℕ → Formula → Type 0
AllNone [] f = Unit {0}
AllNone (m ∷ ms) f = (occurrences (bit m) f ≡ 0) × AllNone ms f

highest-some : (counts : List ℕ) (c most i : ℕ) → highest (some c) most i counts ≡ none → ⊥
unfolding highest pick
highest-some [] c most i e = no-some c (sym e)
highest-some (x ∷ xs) c most i e = go (ltb most x) (highest-some xs i x (suc i)) (highest-some xs c most (suc i)) e
  where
    go : (t : Bool) → (highest (some i) x (suc i) xs ≡ none → ⊥) → (highest (some c) most (suc i) xs ≡ none → ⊥)
        → pick t (highest (some i) x (suc i) xs) (highest (some c) most (suc i) xs) ≡ none → ⊥
    go true y z q = y q
    go false y z q = z q

none-all : (masks : List ℕ) (f : Formula) (i : ℕ) → highest none 0 i (scores_of masks f) ≡ none → AllNone masks f
unfolding highest pick
none-all [] f i e = tt
none-all (m ∷ ms) f i e = go (ltb 0 (occurrences (bit m) f)) refl e (none-all ms f (suc i))
  where
    go : (t : Bool) → ltb 0 (occurrences (bit m) f) ≡ t
        → pick t (highest (some i) (occurrences (bit m) f) (suc i) (scores_of ms f)) (highest none 0 (suc i) (scores_of ms f)) ≡ none
        → (highest none 0 (suc i) (scores_of ms f) ≡ none → AllNone ms f) → (occurrences (bit m) f ≡ 0) × AllNone ms f
    go true q e r = absurd (highest-some (scores_of ms f) i (occurrences (bit m) f) (suc i) e)
    go false q e r = (let z = ltb-false 0 (occurrences (bit m) f) q in omega arith, r e)

all_none : (masks : List ℕ) (f : Formula) (i : ℕ) → AllNone masks f → highest none 0 i (scores_of masks f) ≡ none
unfolding highest pick
all_none [] f i a = refl
all_none (m ∷ ms) f i a = rw (le-ltb 0 (occurrences (bit m) f) (let z = a.0 in omega arith)) (all_none ms f (suc i) a.1)

all_left : (masks : List ℕ) (o : Binary) (f g : Formula) → AllNone masks (two o f g) → AllNone masks f × AllNone masks g
all_left [] o f g a = (tt, tt)
all_left (m ∷ ms) o f g a = let r = all_left ms o f g a.1 in let z = a.0 in ((omega arith, r.0), (omega arith, r.1))

pub chosen-one : (masks : List ℕ) (o : Unary) (f : Formula) → chosen masks (one o f) ≡ chosen masks f
unfolding chosen
chosen-one masks o f = refl

pub chosen-left : (masks : List ℕ) (o : Binary) (f g : Formula) → chosen masks (two o f g) ≡ none → chosen masks f ≡ none
unfolding chosen
chosen-left masks o f g e = all_none masks f 0 (all_left masks o f g (none-all masks (two o f g) 0 e)).0

pub chosen-right : (masks : List ℕ) (o : Binary) (f g : Formula) → chosen masks (two o f g) ≡ none → chosen masks g ≡ none
unfolding chosen
chosen-right masks o f g e = all_none masks g 0 (all_left masks o f g (none-all masks (two o f g) 0 e)).1
