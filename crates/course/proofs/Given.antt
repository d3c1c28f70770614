-- An event given to a state that passes its check and is not finished, up to the close: it has a bit in no mask, or a board has sampled,
-- or the slots are stepped. `given-comes`, with `TickGiven`. Assumes nothing.
use mathlib.Core.Path.{◌≡◌, refl, sym, ap, ◌∙◌, subst}
use mathlib.Core.Bool.{Bool, true, false}
use mathlib.Core.List.{List, []}
use Prim.Native.Nat.{ℕ, ◌+◌}
use native.Mathlib.Omega.{arith}
use Rattle.answers.specs.Said.{accepted, refused}
use Rattle.answers.proofs.Answers.{order-ok, order-refused, order-done}
use Rattle.masks.specs.Masks.{union_with}
use Rattle.state.specs.Fields.{boards_in, slots_in, masks_in}
use Rattle.state.specs.Clauses.{in_mask, state_ok}
use Rattle.state.specs.Calls.{finished_in}
use Rattle.course.specs.Given.{After, after, follow, sampled_from, stepped_below, taken_by, given_under}
use Rattle.course.specs.Order.{none_sampled}
use Rattle.course.proofs.Following.{follow-accepted, follow-refused}
use Rattle.course.proofs.Boards.{BoardsGiven, all-sampled, already, boards-given}
use Rattle.course.proofs.Slots.{SlotsGiven, stepped-none, slots-given}

pub data TickGiven (s : List ℕ) (event : ℕ) (a : After) : Type 0 where
  outside : in_mask event (union_with 0 (masks_in s)) ≡ false → a.says ≡ refused 12 → TickGiven s event a
  sampled : in_mask event (union_with 0 (masks_in s)) ≡ true → none_sampled s ≡ false → a.says ≡ refused 13 → TickGiven s event a
  stepped : in_mask event (union_with 0 (masks_in s)) ≡ true → none_sampled s ≡ true → SlotsGiven s a → TickGiven s event a

module _ (s : List ℕ) (ok : state_ok s ≡ true) (unfinished : finished_in s ≡ false) (event : ℕ) where
  -- the samples, where the event may be taken, and the steps behind them
  abbrev boards : After
  boards = follow (after (taken_by s event) s) (sampled_from (boards_in s) event 0)

  steps : given_under s event ≡ follow boards (stepped_below (slots_in s))
  unfolding given_under
  steps = refl

  taken-outside : in_mask event (union_with 0 (masks_in s)) ≡ false → taken_by s event ≡ refused 12
  unfolding taken_by
  taken-outside e = order-ok 9 _ _ _ ok ∙ order-refused 12 _ _ _ e

  taken-inside : in_mask event (union_with 0 (masks_in s)) ≡ true → taken_by s event ≡ accepted []
  unfolding taken_by
  taken-inside e = order-ok 9 _ _ _ ok ∙ order-ok 12 _ _ _ e ∙ order-done _

  -- where the samples end in a refusal there are no steps
  boards-last : (n : ℕ) → boards.says ≡ refused (1 + n) → (given_under s event).says ≡ refused (1 + n)
  boards-last n e = ap (λ (a : After). a.says) (steps ∙ follow-refused boards (stepped_below (slots_in s)) (rw e (omega arith))) ∙ e

  on-boards : in_mask event (union_with 0 (masks_in s)) ≡ true → BoardsGiven s boards → TickGiven s event (given_under s event)
  on-boards inside (already some says) = sampled inside some (boards-last 12 says)
  on-boards inside (all-sampled fresh says x) =
      stepped inside fresh
      (subst (λ (a : After). SlotsGiven s a) (sym (steps ∙ follow-accepted boards (stepped_below (slots_in s)) says))
      (slots-given s (slots_in s) (omega arith) boards.leaves (stepped-none s boards.leaves ok x)))

  pub given-comes : TickGiven s event (given_under s event)
  given-comes = go (in_mask event (union_with 0 (masks_in s))) refl
    where
      go : (b : Bool) → in_mask event (union_with 0 (masks_in s)) ≡ b → TickGiven s event (given_under s event)
      go true e =
          on-boards e
          (subst (λ (a : After). BoardsGiven s a) (sym (follow-accepted (after (taken_by s event) s) (sampled_from (boards_in s) event 0) (taken-inside e))) (boards-given s ok unfinished event))
      go false e =
          let says = taken-outside e in
          outside e (boards-last 11 (ap (λ (a : After). a.says) (follow-refused (after (taken_by s event) s) (sampled_from (boards_in s) event 0) (rw says (omega arith))) ∙ says))
