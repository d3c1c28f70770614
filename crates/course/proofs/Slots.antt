-- All slots are stepped, the highest first, where all boards have sampled and no slot is stepped: each is ready, as it holds higher ones
-- alone. Either every step leaves a state that passes, and the tick is done; or one leaves a state that fails its check, and the step
-- behind it gets 9, where there is one: `slots-given`, with `SlotsGiven`. The invariant is `SteppedFrom`. Assumes nothing.
use mathlib.Core.Path.{◌≡◌, refl, sym, ap, ◌∙◌, subst}
use mathlib.Core.Bool.{Bool, true, false}
use mathlib.Core.List.{List, []}
use mathlib.Core.Logic.{⊎_elim}
use Prim.Native.Nat.{ℕ, zero, suc, ◌<◌, ◌≤◌}
use native.Mathlib.Nat.{eq-or-lt_of_le}
use native.Mathlib.Omega.{arith}
use Rattle.answers.specs.Said.{Said, accepted, refused, left}
use Rattle.answers.specs.declared.Refusal.TheVariants.{State}
use Rattle.answers.proofs.Answers.{left-refused, order-refused}
use Rattle.state.specs.Fields.{boards_in, slots_in, sampled_in, board_of_in, stepped_in}
use Rattle.state.specs.Clauses.{state_ok}
use Rattle.state.specs.Calls.{finished_in, step_says, step_leaves, done_in}
use Rattle.state.proofs.Framed.{Framed}
use Rattle.checked.proofs.Passing.{counts_in, passing, passing-sized}
use Rattle.keeping.proofs.Slots.{zero_flag}
use Rattle.keeping.proofs.Stepping.{after as step_after, step-framed, step-flag, step-slot, step-mark}
use Rattle.keeping.proofs.Calls.{accepted-leaves, done-of, above-ready, step-accepted}
use Rattle.keeping.proofs.Kept.{step_kept}
use Rattle.course.specs.Given.{After, stepped_below}
use Rattle.course.proofs.Following.{stepped-done, stepped-more, stepped-refused}
use Rattle.course.proofs.Frames.{framed_then}
use Rattle.course.proofs.Boards.{SampledTo}

-- ---- all boards have sampled, the slots from k on are stepped and those below are not
pub record SteppedFrom (s t : List ℕ) (k : ℕ) : Type 0 where
  pub passes : state_ok t ≡ true
  pub unfinished : finished_in t ≡ false
  pub frame : Framed s t
  pub sampled : (b : ℕ) → b < boards_in s → sampled_in t b ≡ 1
  pub unstepped : (j : ℕ) → j < k → stepped_in t j ≡ 0
  pub stepped : (j : ℕ) → k ≤ j → j < slots_in s → stepped_in t j ≡ 1

-- where no board had sampled, no slot was stepped: a stepped slot's board has
pub stepped-none : (s t : List ℕ) → state_ok s ≡ true → SampledTo s t (boards_in s) → SteppedFrom s t (slots_in s)
stepped-none s t ok x =
    record {
      passes = x.passes;
      unfinished = x.unfinished;
      frame = x.frame;
      sampled = x.sampled;
      unstepped = λ j l.
          (let y = (passing s ok).slots j l in
          x.marks j l ∙ zero_flag (stepped_in s j) y.flag (λ e. (let z = x.fresh (board_of_in s j) y.board-there in omega (arith, y.sampled e))));
      stepped = λ j l h. absurd (omega arith);
    }

-- all are stepped: the tick is done
pub stepped-finish : (s t : List ℕ) → SteppedFrom s t 0 → done_in t ≡ true
stepped-finish s t x =
    let b = x.frame.boards in
    let n = x.frame.slots in
    done-of t (λ i l. x.sampled i (omega arith)) (λ k l. x.stepped k (omega arith) (omega arith))

-- one turn
module _ (s t : List ℕ) (k : ℕ) (x : SteppedFrom s t (suc k)) (l : k < slots_in s) where
  there : k < slots_in t
  there = let n = x.frame.slots in omega arith

  says : step_says t k ≡ accepted []
  says =
      let ok = x.passes in
      let n = x.frame.slots in
      let b = x.frame.boards in
      step-accepted t ok x.unfinished k there (x.unstepped k (omega arith))
      (above-ready t ok k there (x.sampled (board_of_in t k) (omega (arith, ((passing t ok).slots k there).board-there))) (λ m h i. x.stepped m (omega arith) (omega arith)))

  leaves : step_leaves t k ≡ step_after t k
  leaves = accepted-leaves _ (step_after t k) t says

  frame : Framed s (step_leaves t k)
  frame = framed_then x.frame (subst (λ (u : List ℕ). Framed t u) (sym leaves) (step-framed t x.passes k there))

  more : state_ok (step_leaves t k) ≡ true → SteppedFrom s (step_leaves t k) k
  more passes =
      let ok = x.passes in
      let n = x.frame.slots in
      let c = x.frame.boards in
      record {
        passes = passes;
        unfinished = (step_kept t (counts_in t) (record { passes = ok; header = (passing-sized t ok).header }) x.unfinished k says).unfinished;
        frame = frame;
        sampled = λ b h. ap (λ (u : List ℕ). sampled_in u b) leaves ∙ step-flag t ok k there b (omega arith) ∙ x.sampled b h;
        unstepped = λ j h. ap (λ (u : List ℕ). stepped_in u j) leaves ∙ (step-slot t ok k there j (omega arith) (λ q. omega arith)).mark ∙ x.unstepped j (omega arith);
        stepped = λ j h i.
            ap (λ (u : List ℕ). stepped_in u j) leaves
            ∙ ⊎_elim (λ q. ap (stepped_in (step_after t k)) (sym q) ∙ step-mark t ok k there)
            (λ q. (step-slot t ok k there j (omega arith) (λ e. omega arith)).mark ∙ x.stepped j (omega arith) i) (eq-or-lt_of_le h);
      }

-- ---- all of them
pub data SlotsGiven (s : List ℕ) (a : After) : Type 0 where
  all-stepped : a.says ≡ accepted [] → SteppedFrom s a.leaves 0 → SlotsGiven s a
  last-fails : a.says ≡ accepted [] → Framed s a.leaves → state_ok a.leaves ≡ false → SlotsGiven s a
  one-fails : a.says ≡ refused 9 → state_ok a.leaves ≡ false → SlotsGiven s a

-- behind a step that has left a state that fails
given-failed : (s : List ℕ) (k : ℕ) (t : List ℕ) → Framed s t → state_ok t ≡ false → SlotsGiven s (stepped_below k t)
unfolding step_says
given-failed s zero t f fails = subst (λ (a : After). SlotsGiven s a) (sym (stepped-done t)) (last-fails refl f fails)
given-failed s (suc k) t f fails =
    let e : step_says t k ≡ refused 9 = order-refused 9 _ _ _ fails in
    let same : step_leaves t k ≡ t = ap (λ (a : Said). left a (step_after t k) t) e ∙ left-refused State (step_after t k) t in
    subst (λ (a : After). SlotsGiven s a) (sym (stepped-refused k t (rw e (omega arith)))) (one-fails e (ap state_ok same ∙ fails))

pub slots-given : (s : List ℕ) (k : ℕ) → k ≤ slots_in s → (t : List ℕ) → SteppedFrom s t k → SlotsGiven s (stepped_below k t)
slots-given s zero l t x = subst (λ (a : After). SlotsGiven s a) (sym (stepped-done t)) (all-stepped refl x)
slots-given s (suc k) l t x =
    subst (λ (a : After). SlotsGiven s a) (sym (stepped-more k t (says s t k x (omega arith)))) (turn (state_ok (step_leaves t k)) refl (λ u y. slots-given s k (omega arith) u y))
  where
    turn : (b : Bool) → state_ok (step_leaves t k) ≡ b → ((u : List ℕ) → SteppedFrom s u k → SlotsGiven s (stepped_below k u)) → SlotsGiven s (stepped_below k (step_leaves t k))
    turn true e rest = rest (step_leaves t k) (more s t k x (omega arith) e)
    turn false e rest = given-failed s k (step_leaves t k) (frame s t k x (omega arith)) e
