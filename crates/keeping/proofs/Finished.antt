-- Whether a state's watch is finished: one that is not tells no verdict (`unfinished-pending`); what a finished one's root is (`ended`,
-- `not-finished`, and the other way `finished-of`); a stepped root is not finished (`stepped-unfinished`, `done-unfinished`), and a state
-- that has slots and root in common with another is finished where that is (`finished-same`). Assumes nothing.
use mathlib.Core.Path.{◌≡◌, refl}
use mathlib.Core.Bool.{Bool, true, false}
use mathlib.Core.List.{List}
use Prim.Native.Nat.{ℕ, ◌<◌}
use native.Mathlib.Omega.{arith}
use lib.Dec.{eqb}
use borrow.Author.Tests.{eqb-true, eq-eqb}
use Rattle.lists.specs.Tests.{pick, both}
use Rattle.lists.proofs.Tests.{both-0, both-1, both_true}
use Rattle.answers.specs.declared.Verdict.TheVariants.{Pending}
use Rattle.state.specs.Fields.{slots_in, stepped_in}
use Rattle.state.specs.Clauses.{is_constant_in}
use Rattle.state.specs.Calls.{finished_in, verdict_in, done_in}
use Rattle.state.proofs.Framed.{Framed}
use Rattle.state.proofs.SameSlots.{SameSlot}
use Rattle.records.proofs.Each.{each_at}
use Rattle.keeping.proofs.Slots.{same-constant}

pub unfinished-pending : (s : List ℕ) → finished_in s ≡ false → verdict_in s ≡ Pending
unfolding verdict_in pick
unfinished-pending s e = rw e

pub finished-of : (s : List ℕ) → slots_in s ≡ 1 → stepped_in s 0 ≡ 0 → is_constant_in s 0 ≡ true → finished_in s ≡ true
unfolding finished_in
finished-of s a b c = both_true _ _ (eq-eqb _ _ a) (both_true _ _ (eq-eqb _ _ b) c)

-- what a finished state's root is
pub record Ended (s : List ℕ) : Type 0 where
  pub unstepped : stepped_in s 0 ≡ 0
  pub constant : is_constant_in s 0 ≡ true

ended : (s : List ℕ) → finished_in s ≡ true → Ended s
unfolding finished_in
ended s e = let a = both-1 _ _ e in record { unstepped = eqb-true _ _ (both-0 _ _ a); constant = both-1 _ _ a }

pub not-finished : (s : List ℕ) → (Ended s → ⊥) → finished_in s ≡ false
not-finished s h = go (finished_in s) refl
  where
    go : (b : Bool) → finished_in s ≡ b → b ≡ false
    go true e = absurd (h (ended s e))
    go false e = refl

-- ---- where the root is stepped
pub stepped-unfinished : (s : List ℕ) → stepped_in s 0 ≡ 1 → finished_in s ≡ false
stepped-unfinished s e = not-finished s (λ x. omega (arith, x.unstepped))

pub done-unfinished : (s : List ℕ) → 0 < slots_in s → done_in s ≡ true → finished_in s ≡ false
unfolding done_in
done-unfinished s l d = stepped-unfinished s (eqb-true _ _ (each_at (λ k. eqb (stepped_in s k) 1) (slots_in s) 0 (both-1 _ _ d) l))

-- ---- where it is not touched
pub finished-same : {s t : List ℕ} → Framed s t → SameSlot s t 0 → finished_in t ≡ finished_in s
unfolding finished_in
finished-same f x = λ i. both (eqb (f.slots i) 1) (both (eqb (x.mark i) 0) (same-constant x i))
