-- What `close` answers and leaves, one law for each outcome, over plain lists. Assumes nothing.
use Rattle.std.specs.Prelude.{Result, Ok, Err, ⊤}
use mathlib.Core.Path.{◌≡◌, sym, ap, subst, ◌∙◌}
use mathlib.Core.Bool.{true, false, not}
use mathlib.Core.List.{List, [], ◌∷◌}
use Prim.Native.Nat.{ℕ, ◌+◌, ◌^◌}
use lib.ListN.{length}
use lib.Dec.{ltb, eqb}
use borrow.Author.Tests.{lt-ltb, eq-eqb, ne_eqb}
use Rattle.answers.specs.declared.Refusal.{Refusal}
use Rattle.answers.specs.declared.Refusal.TheVariants.{Length, State, Finished}
use Rattle.answers.specs.Said.{Said, accepted, refused, left, number_of, Check, check, in_order, said_outcome}
use Rattle.answers.proofs.Answers.{left-refused, order-ok, order-refused}
use Rattle.state.specs.Fields.{ticks_in}
use Rattle.state.specs.Clauses.{state_ok}
use Rattle.state.specs.Calls.{finished_in, done_in, close_says}
use Rattle.state.specs.Form.{form_in, state_length}
use Rattle.renewing.specs.Renew.{next_state}
use Rattle.advancing.specs.Advance.{advance_says, Advances}
use Rattle.closing.specs.Close.{over_says, Closes}
use Rattle.closing.proofs.Ready.{over-refused, over-passed}

module _ (s second : List ℕ) where
  -- a refusal leaves the second buffer as it was
  refusal : (why : Refusal) → close_says s (length second) ≡ refused (number_of why) → Closes s second second (Err why)
  refusal why e = record { says = sym e; leaves = sym (ap (λ (x : Said). left x (next_state s) second) e ∙ left-refused why (next_state s) second) }

  pub refused-length : (length second ≡ state_length (form_in s) → ⊥) → Closes s second second (Err Length)
  unfolding close_says
  refused-length h = refusal Length (order-refused 1 _ _ _ (ne_eqb (length second) (state_length (form_in s)) h))

  module _ (long : length second ≡ state_length (form_in s)) where
    long_ok : eqb (length second) (state_length (form_in s)) ≡ true
    long_ok = eq-eqb (length second) (state_length (form_in s)) long

    pub refused-state : state_ok s ≡ false → Closes s second second (Err State)
    unfolding close_says
    refused-state e = refusal State (order-ok 1 _ _ _ long_ok ∙ order-refused 9 _ _ _ e)

    module _ (ok : state_ok s ≡ true) where
      pub refused-finished : finished_in s ≡ true → Closes s second second (Err Finished)
      unfolding close_says
      refused-finished e = refusal Finished (order-ok 1 _ _ _ long_ok ∙ order-ok 9 _ _ _ ok ∙ order-refused 10 _ _ _ (ap not e))

-- what the checks have told up to the boards'
pub record CloseGoing (s second : List ℕ) : Type 0 where
  pub long : length second ≡ state_length (form_in s)
  pub passes : state_ok s ≡ true
  pub going : finished_in s ≡ false

module _ {s second : List ℕ} (g : CloseGoing s second) where
  going-says : (cs : List Check) (t : Said) → in_order (check 1 (eqb (length second) (state_length (form_in s))) ∷ check 9 (state_ok s) ∷ check 10 (not (finished_in s)) ∷ cs) t ≡ in_order cs t
  going-says cs t = order-ok 1 _ _ _ (long_ok s second g.long) ∙ order-ok 9 _ _ _ g.passes ∙ order-ok 10 _ _ _ (ap not g.going)

  -- a tick that cannot be closed
  pub refused_over : (why : Refusal) → refused (number_of why) ≡ over_says s → Closes s second second (Err why)
  unfolding close_says over_says
  refused_over why h = refusal s second why (going-says _ _ ∙ over-refused (done_in s) (ltb (ticks_in s + 1) (2 ^ 32)) why _ _ (sym h))

  -- one that can
  pub advanced : accepted [] ≡ over_says s → {second' : List ℕ} {answer : Result ⊤ Refusal} → Advances s second second' answer → Closes s second second' answer
  unfolding close_says
  advanced e x =
      let o = over-passed s e in
      let says : close_says s (length second) ≡ advance_says s = going-says _ _ ∙ order-ok 14 _ _ _ o.0 ∙ order-ok 15 _ _ _ (lt-ltb (ticks_in s + 1) (2 ^ 32) o.1) in
      record { says = x.says ∙ sym says; leaves = x.leaves ∙ sym (ap (λ (y : Said). left y (next_state s) second) says) }
