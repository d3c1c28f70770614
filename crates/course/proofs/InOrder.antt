-- What a tick answers, of a state that passes its check and is not finished, is told by its checks in their order: `tick-in-order`.
-- So 10, 11 and 14 never come, 12 is of the whole event, and 13 of a sample. Assumes nothing.
use mathlib.Core.Path.{◌≡◌, sym, ap, ap₂, ◌∙◌}
use mathlib.Core.Bool.{true, false, not}
use mathlib.Core.List.{List, [], ◌∷◌}
use Prim.Native.Nat.{ℕ, ◌+◌, ◌^◌}
use native.Mathlib.Omega.{arith}
use lib.ListN.{length}
use lib.Dec.{leb, ltb}
use borrow.Author.Tests.{eq-eqb, ne_eqb}
use Rattle.lists.specs.Tests.{pick}
use Rattle.answers.specs.Said.{Said, accepted, refused, check, in_order}
use Rattle.answers.proofs.Answers.{order-ok, order-refused}
use Rattle.state.specs.declared.Form.{Form}
use Rattle.state.specs.Form.{form_in, state_length, slots_most, nodes_most}
use Rattle.state.specs.Fields.{ticks_in}
use Rattle.state.specs.Clauses.{state_ok}
use Rattle.state.specs.Bytes.{nodes_of}
use Rattle.state.specs.Calls.{finished_in, next_in, close_says}
use Rattle.state.proofs.Framed.{Framed, form-same, formed-same}
use Rattle.checked.proofs.Passing.{passing}
use Rattle.course.specs.Given.{given_under}
use Rattle.course.specs.Ticked.{tick_leaves, tick_says}
use Rattle.course.specs.Order.{tick_order}
use Rattle.course.proofs.Slots.{SteppedFrom, stepped-finish, all-stepped, last-fails, one-fails}
use Rattle.course.proofs.Given.{TickGiven, outside, sampled, stepped, given-comes}

-- ---- the tick's answer is the close's, or a refusal before it
module _ (s : List ℕ) (event : ℕ) where
  pub tick-closes : (given_under s event).says ≡ accepted [] → tick_says s event ≡ close_says (tick_leaves s event) (length s)
  unfolding tick_says pick
  tick-closes e = rw (eq-eqb (given_under s event).says.number 0 (ap (λ (a : Said). a.number) e))

  pub tick-refused : (n : ℕ) → (given_under s event).says ≡ refused (1 + n) → tick_says s event ≡ refused (1 + n)
  unfolding tick_says pick
  tick-refused n e =
      let z : (given_under s event).says.number ≡ 1 + n = ap (λ (a : Said). a.number) e in
      rw (ne_eqb (given_under s event).says.number 0 (λ q. omega arith)) e

-- ---- the close, into a buffer of the state's length, of a state t that samples and steps have left
module _ (s : List ℕ) (ok : state_ok s ≡ true) (t : List ℕ) (frame : Framed s t) where
  room : length s ≡ state_length (form_in t)
  room = sym frame.long ∙ formed-same frame (passing s ok).long

  close-failed : state_ok t ≡ false → close_says t (length s) ≡ refused 9
  unfolding close_says
  close-failed e = order-ok 1 _ _ _ (eq-eqb _ _ room) ∙ order-refused 9 _ _ _ e

  -- the checks that are left where the tick is done
  abbrev checks : ℕ → Form → Said
  checks n φ =
      in_order (check 15 (ltb (n + 1) (2 ^ 32)) ∷ check 7 (leb (length (next_in t)) (slots_most φ)) ∷ check 8 (leb (nodes_of (next_in t)) (nodes_most φ)) ∷ []) (accepted [])

  close-done : SteppedFrom s t 0 → close_says t (length s) ≡ checks (ticks_in s) (form_in s)
  unfolding close_says
  close-done x =
      order-ok 1 _ _ _ (eq-eqb _ _ room) ∙ order-ok 9 _ _ _ x.passes ∙ order-ok 10 _ _ _ (ap not x.unfinished) ∙ order-ok 14 _ _ _ (stepped-finish s t x)
      ∙ ap₂ checks frame.ticks (form-same frame)

-- ---- the order
pub tick-in-order : (s : List ℕ) → state_ok s ≡ true → finished_in s ≡ false → (event : ℕ) → tick_says s event ≡ tick_order s event
unfolding tick_order
tick-in-order s ok unfinished event = go (given-comes s ok unfinished event)
  where
    go : TickGiven s event (given_under s event) → tick_says s event ≡ tick_order s event
    go (outside out says) = tick-refused s event 11 says ∙ sym (order-refused 12 _ _ _ out)
    go (sampled inside some says) = tick-refused s event 12 says ∙ sym (order-ok 12 _ _ _ inside ∙ order-refused 13 _ _ _ some)
    go (stepped inside fresh (one-fails says fails)) = tick-refused s event 8 says ∙ sym (order-ok 12 _ _ _ inside ∙ order-ok 13 _ _ _ fresh ∙ order-refused 9 _ _ _ fails)
    go (stepped inside fresh (last-fails says frame fails)) =
        tick-closes s event says ∙ close-failed s ok (tick_leaves s event) frame fails ∙ sym (order-ok 12 _ _ _ inside ∙ order-ok 13 _ _ _ fresh ∙ order-refused 9 _ _ _ fails)
    go (stepped inside fresh (all-stepped says x)) =
        tick-closes s event says ∙ close-done s ok (tick_leaves s event) x.frame x ∙ sym (order-ok 12 _ _ _ inside ∙ order-ok 13 _ _ _ fresh ∙ order-ok 9 _ _ _ x.passes)
