-- Which slots of a network are reached from slot 0, where each holds higher numbers alone: slot 0 is (`reached-root`), and what a
-- reached slot holds (`reached-held`), and nothing else (`reached-holder`). Assumes nothing.
use mathlib.Core.Path.{◌≡◌, refl, subst}
use mathlib.Core.Bool.{Bool, true}
use mathlib.Core.List.{List, [], ◌∷◌}
use mathlib.Core.Logic.{◌⊎◌, inl, inr, ⊎_elim}
use Prim.Native.Nat.{ℕ, zero, suc, ◌+◌, ◌<◌, ◌≤◌}
use native.Mathlib.Omega.{arith}
use lib.ListN.{length}
use lib.Dec.{eqb}
use borrow.Author.Tests.{eqb-true, eq-eqb}
use Rattle.lists.specs.Tests.{both, either}
use Rattle.lists.proofs.Tests.{both-0, both-1, both_true, either-elim, either-right}
use Rattle.network.specs.Layout.{Slot, slot_at}
use Rattle.network.proofs.Laying.{HoldsIn}
use Rattle.registers.specs.Relaying.{holds_of, is_among, reached_from, reached_in}
use Rattle.registers.proofs.Members.{OneOf, among-is, among_of, holds-each}

-- the slots of a row, the first of them number i, hold higher numbers alone
abbrev pub Higher : ℕ → List Slot → Type 0
Higher i ss = (j : ℕ) → j < length ss → (m : ℕ) → OneOf m (holds_of (slot_at ss j).formula) → i + j < m

higher-rest : (i : ℕ) (s : Slot) (ss : List Slot) → Higher i (s ∷ ss) → Higher (suc i) ss
higher-rest i s ss h j l m a = let q = h (suc j) (omega arith) m a in omega arith

either_left : (x y : Bool) → x ≡ true → either x y ≡ true
unfolding either
either_left x y e = rw e

either_second : (x y : Bool) → y ≡ true → either x y ≡ true
either_second x y e = rw e (either-right x)

-- what a slot adds
abbrev with-slot : ℕ → Slot → (ℕ → Bool) → ℕ → Bool
with-slot i s reached k = either (reached k) (both (reached i) (is_among k (holds_of s.formula)))

from-keeps : (i : ℕ) (ss : List Slot) (reached : ℕ → Bool) (m : ℕ) → reached m ≡ true → reached_from i ss reached m ≡ true
unfolding reached_from
from-keeps i [] reached m e = e
from-keeps i (s ∷ ss) reached m e = from-keeps (suc i) ss (with-slot i s reached) m (either_left (reached m) (both (reached i) (is_among m (holds_of s.formula))) e)

-- a slot that is not behind the row is not touched
from-still : (i : ℕ) (ss : List Slot) (reached : ℕ → Bool) (m : ℕ) → Higher i ss → m ≤ i → reached_from i ss reached m ≡ true → reached m ≡ true
unfolding reached_from
from-still i [] reached m h l e = e
from-still i (s ∷ ss) reached m h l e =
    either-elim (reached m) (both (reached i) (is_among m (holds_of s.formula))) (reached m ≡ true) (λ p. p)
    (λ p. (let q = h 0 (omega arith) m (among-is m (holds_of s.formula) (both-1 (reached i) (is_among m (holds_of s.formula)) p)) in absurd (omega arith)))
    (from-still (suc i) ss (with-slot i s reached) m (higher-rest i s ss h) (omega arith) e)

from-held : (i : ℕ) (ss : List Slot) (reached : ℕ → Bool) → Higher i ss → (j m : ℕ) → j < length ss → reached_from i ss reached (i + j) ≡ true → OneOf m (holds_of (slot_at ss j).formula)
    → reached_from i ss reached m ≡ true
unfolding reached_from
from-held i [] reached h j m l e a = absurd (omega arith)
from-held i (s ∷ ss) reached h zero m l e a =
    let z : i + 0 ≡ i = omega arith in
    let r = from-still (suc i) ss (with-slot i s reached) i (higher-rest i s ss h) (omega arith) (subst (λ (x : ℕ). reached_from (suc i) ss (with-slot i s reached) x ≡ true) z e) in
    let own = either-elim (reached i) (both (reached i) (is_among i (holds_of s.formula))) (reached i ≡ true) (λ p. p) (λ p. both-0 (reached i) (is_among i (holds_of s.formula)) p) r in
    from-keeps (suc i) ss (with-slot i s reached) m
    (either_second (reached m) (both (reached i) (is_among m (holds_of s.formula))) (both_true (reached i) (is_among m (holds_of s.formula)) own (among_of m (holds_of s.formula) a)))
from-held i (s ∷ ss) reached h (suc j) m l e a =
    let z : i + suc j ≡ suc i + j = omega arith in
    from-held (suc i) ss (with-slot i s reached) (higher-rest i s ss h) j m (omega arith) (subst (λ (x : ℕ). reached_from (suc i) ss (with-slot i s reached) x ≡ true) z e) a

-- the slot of a row that holds a reached one
pub record ReachedBy (i : ℕ) (ss : List Slot) (reached : ℕ → Bool) (m : ℕ) : Type 0 where
  pub number : ℕ
  pub there : number < length ss
  pub reaches : reached (i + number) ≡ true
  pub holds : OneOf m (holds_of (slot_at ss number).formula)

from-holder : (i : ℕ) (ss : List Slot) (reached : ℕ → Bool) (m : ℕ) → reached_from i ss reached m ≡ true → (reached m ≡ true) ⊎ ReachedBy i ss (reached_from i ss reached) m
unfolding reached_from
from-holder i [] reached m e = inl e
from-holder i (s ∷ ss) reached m e =
    ⊎_elim
    (λ p. either-elim (reached m) (both (reached i) (is_among m (holds_of s.formula))) _ (λ q. inl q)
    (λ q. inr (record {
      number = 0;
      there = omega arith;
      reaches = (let z : i ≡ i + 0 = omega arith in
          let r = both-0 (reached i) (is_among m (holds_of s.formula)) q in
          subst (λ (x : ℕ). reached_from (suc i) ss (with-slot i s reached) x ≡ true) z
          (from-keeps (suc i) ss (with-slot i s reached) i (either_left (reached i) (both (reached i) (is_among i (holds_of s.formula))) r)));
      holds = among-is m (holds_of s.formula) (both-1 (reached i) (is_among m (holds_of s.formula)) q);
    })) p)
    (λ b. (let z : suc i + b.number ≡ i + suc b.number = omega arith in
    let l = b.there in
    inr (record { number = suc b.number; there = omega arith; reaches = subst (λ (x : ℕ). reached_from (suc i) ss (with-slot i s reached) x ≡ true) z b.reaches; holds = b.holds })))
    (from-holder (suc i) ss (with-slot i s reached) m e)

-- ---- from slot 0
pub reached-root : (slots : List Slot) → reached_in slots 0 ≡ true
unfolding reached_in
reached-root slots = from-keeps 0 slots (λ k. eqb k 0) 0 (eq-eqb 0 0 refl)

pub reached-held : (slots : List Slot) → Higher 0 slots → (n m : ℕ) → n < length slots → reached_in slots n ≡ true → OneOf m (holds_of (slot_at slots n).formula) → reached_in slots m ≡ true
unfolding reached_in
reached-held slots h n m l e a =
    let z : n ≡ 0 + n = omega arith in
    from-held 0 slots (λ k. eqb k 0) h n m l (subst (λ (x : ℕ). reached_from 0 slots (λ k. eqb k 0) x ≡ true) z e) a

-- the reached slot that holds another, by its number
pub record HolderOf (slots : List Slot) (m : ℕ) : Type 0 where
  pub holder : ℕ
  pub there : holder < length slots
  pub before : holder < m
  pub reaches : reached_in slots holder ≡ true
  pub holds : OneOf m (holds_of (slot_at slots holder).formula)

pub reached-holder : (slots : List Slot) → Higher 0 slots → (m : ℕ) → reached_in slots m ≡ true → (m ≡ 0) ⊎ HolderOf slots m
unfolding reached_in
reached-holder slots h m e =
    ⊎_elim (λ p. inl (eqb-true m 0 p))
    (λ b. (let z : 0 + b.number ≡ b.number = omega arith in
    let q = h b.number b.there m b.holds in
    inr (record { holder = b.number; there = b.there; before = omega arith; reaches = subst (λ (x : ℕ). reached_from 0 slots (λ k. eqb k 0) x ≡ true) z b.reaches; holds = b.holds })))
    (from-holder 0 slots (λ k. eqb k 0) m e)

-- from the condition that a network keeps
pub holds-higher : (slots : List Slot) → ((n : ℕ) → n < length slots → HoldsIn (λ m. (n < m) × (m < length slots)) (slot_at slots n).formula) → Higher 0 slots
holds-higher slots h j l m a = let q = holds-each (λ m. (j < m) × (m < length slots)) (slot_at slots j).formula (h j l) m a in let p = q.0 in omega arith
