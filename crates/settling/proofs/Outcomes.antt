-- What `step` answers and leaves, one law for each outcome, over plain lists. Assumes nothing.
use Rattle.std.specs.Prelude.{Ok, Err, Some, None}
use mathlib.Core.Path.{◌≡◌, sym, ap, ◌∙◌}
use mathlib.Core.Bool.{true, false, not}
use mathlib.Core.List.{List, [], ◌∷◌}
use Prim.Native.Nat.{ℕ, ◌<◌, ◌≤◌}
use borrow.Author.Tests.{lt-ltb, le-ltb, eq-eqb, ne_eqb}
use Rattle.answers.specs.declared.Refusal.{Refusal}
use Rattle.answers.specs.declared.Refusal.TheVariants.{State, Finished, Nowhere, Already, Unready}
use Rattle.answers.specs.Said.{Said, accepted, refused, left, number_of, check, in_order}
use Rattle.answers.proofs.Answers.{left-refused, left-accepted, order-ok, order-refused, order-done}
use Rattle.ltl.specs.Formula.{Formula}
use Rattle.state.specs.Fields.{slots_in, stepped_in}
use Rattle.state.specs.Clauses.{state_ok}
use Rattle.state.specs.Bytes.{formula_at}
use Rattle.state.specs.Calls.{finished_in, ready_in, stepped_to, step_says}
use Rattle.resolving.specs.declared.Seen.{Seen}
use Rattle.resolving.specs.Settles.{settled}
use Rattle.seeing.specs.Seeing.{sight_in}
use Rattle.seeing.proofs.Telling.{sight-waits, sight-sees}
use Rattle.settling.specs.Step.{StepsSlot}
use Rattle.settling.specs.Putting.{stepped_as}

module _ (s : List ℕ) (k : ℕ) where
  -- a refusal leaves the state as it was
  refusal : (why : Refusal) → step_says s k ≡ refused (number_of why) → StepsSlot s k s (Err why)
  refusal why e =
      record { says = sym e; leaves = sym (ap (λ (x : Said). left x (stepped_as (stepped_to s k) s k) s) e ∙ left-refused why (stepped_as (stepped_to s k) s k) s) }

  pub refused-state : state_ok s ≡ false → StepsSlot s k s (Err State)
  unfolding step_says
  refused-state e = refusal State (order-refused 9 _ _ _ e)

  module _ (ok : state_ok s ≡ true) where
    pub refused-finished : finished_in s ≡ true → StepsSlot s k s (Err Finished)
    unfolding step_says
    refused-finished e = refusal Finished (order-ok 9 _ _ _ ok ∙ order-refused 10 _ _ _ (ap not e))

    module _ (going : finished_in s ≡ false) where
      pub refused-nowhere : slots_in s ≤ k → StepsSlot s k s (Err Nowhere)
      unfolding step_says
      refused-nowhere h = refusal Nowhere (order-ok 9 _ _ _ ok ∙ order-ok 10 _ _ _ (ap not going) ∙ order-refused 11 _ _ _ (le-ltb k (slots_in s) h))

      module _ (there : k < slots_in s) where
        pub refused-already : (stepped_in s k ≡ 0 → ⊥) → StepsSlot s k s (Err Already)
        unfolding step_says
        refused-already h =
            refusal Already
            (order-ok 9 _ _ _ ok ∙ order-ok 10 _ _ _ (ap not going) ∙ order-ok 11 _ _ _ (lt-ltb k (slots_in s) there)
            ∙ order-refused 13 _ _ _ (ne_eqb (stepped_in s k) 0 h))

        module _ (fresh : stepped_in s k ≡ 0) where
          passed : step_says s k ≡ in_order (check 14 (ready_in s k) ∷ []) (accepted [])
          unfolding step_says
          passed =
              order-ok 9 _ _ _ ok ∙ order-ok 10 _ _ _ (ap not going) ∙ order-ok 11 _ _ _ (lt-ltb k (slots_in s) there)
              ∙ order-ok 13 _ _ _ (eq-eqb (stepped_in s k) 0 fresh)

          pub refused-unready : sight_in s k ≡ None → StepsSlot s k s (Err Unready)
          refused-unready e = refusal Unready (passed ∙ order-refused 14 _ _ _ (sight-waits s k e))

          pub done : (x : Seen) → sight_in s k ≡ Some x → (s' : List ℕ) → s' ≡ stepped_as (settled x (formula_at s k)) s k → StepsSlot s k s' (Ok tt)
          done x e s' put =
              let r = sight-sees s k x e in
              let says : step_says s k ≡ accepted [] = passed ∙ order-ok 14 _ _ _ r.0 ∙ order-done _ in
              let new = stepped_as (stepped_to s k) s k in
              record {
                says = sym says;
                leaves = put ∙ ap (λ (f : Formula). stepped_as f s k) r.1 ∙ sym (ap (λ (z : Said). left z new s) says ∙ left-accepted [] new s);
              }
