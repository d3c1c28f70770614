-- The ways out of a tick: giving refuses (`tick-refused`), or it is accepted and the close answers (`tick-closed`). Assumes nothing.
use Rattle.std.specs.Prelude.{Result, Ok, Err, ⊤}
use mathlib.Core.Path.{◌≡◌, refl, sym, ap, ◌∙◌}
use mathlib.Core.Bool.{Bool, true, false}
use mathlib.Core.List.{List, [], ◌∷◌}
use Prim.Native.Nat.{ℕ}
use native.Mathlib.Omega.{arith}
use lib.ListN.{length}
use lib.Dec.{eqb}
use borrow.Author.Tests.{eqb-true, eqb-false, eq-eqb}
use Rattle.lists.specs.Tests.{pick}
use Rattle.answers.specs.declared.Refusal.{Refusal}
use Rattle.answers.specs.Said.{Said, accepted, left, number_of, said_outcome, check, in_order}
use Rattle.answers.proofs.Answers.{number-some, order-ok, order-refused, order-done}
use Rattle.state.specs.declared.Counts.{Counts}
use Rattle.state.specs.Form.{form_in, state_length}
use Rattle.state.specs.Clauses.{state_ok}
use Rattle.state.specs.Calls.{close_says, close_leaves}
use Rattle.storing.specs.Stores.{ZeroFrom}
use Rattle.closing.specs.Close.{Closes}
use Rattle.course.specs.Given.{follow, given_under}
use Rattle.course.specs.Ticked.{tick_leaves, tick_says, closed_to}
use Rattle.giving.specs.Give.{given_passing, Comes}
use Rattle.keeping.proofs.Refused.{refused-leaves}
use Rattle.ticking.specs.Tick.{TicksOnce}
use Rattle.ticking.proofs.Lending.{end_of}

left-twice : (a : Said) (x y : List ℕ) → left a x y ≡ left a (left a x y) y
unfolding left pick
left-twice a x y = go (eqb a.number 0)
  where
    go : (b : Bool) → pick b x y ≡ pick b (pick b x y) y
    go true = refl
    go false = refl

module _ (s : List ℕ) (event : ℕ) (t : List ℕ) (x : Result ⊤ Refusal) (c : Comes (given_passing s event) t x) where
  -- the calls were all accepted, or one was refused
  abbrev all : Bool
  all = eqb (given_under s event).says.number 0

  -- one was: that is what the tick answers
  said-first : all ≡ false → said_outcome x ≡ (given_under s event).says
  unfolding given_passing follow pick
  said-first e = c.says ∙ (rw e)

  ended : all ≡ false → said_outcome x ≡ tick_says s event
  unfolding tick_says pick
  ended e = said-first e ∙ (rw e)

  -- all were: whether the state passes that they have left
  came : all ≡ true → (said_outcome x ≡ in_order (check 9 (state_ok (tick_leaves s event)) ∷ []) (accepted [])) × (t ≡ tick_leaves s event)
  unfolding given_passing follow pick
  came e = (c.says ∙ (rw e), c.leaves ∙ (rw e))

  closes_as : all ≡ true → tick_says s event ≡ close_says (tick_leaves s event) (length s)
  unfolding tick_says pick
  closes_as e = rw e

  -- where giving refuses so does the tick
  module _ (why : Refusal) (is : x ≡ Err why) (long : length s ≡ state_length (form_in t)) where
    -- all calls were accepted, so that the state fails which they have left: close says so
    broken : all ≡ true → (b : Bool) → state_ok (tick_leaves s event) ≡ b → said_outcome x ≡ tick_says s event
    unfolding close_says
    broken e true ok =
        let z = number-some why in
        let n : number_of why ≡ 0 = ap (λ (a : Said). a.number) (sym (ap said_outcome is) ∙ (came e).0 ∙ order-ok 9 _ _ _ ok ∙ order-done _) in
        absurd (omega arith)
    broken e false ok =
        (came e).0 ∙ order-refused 9 _ _ _ ok
        ∙ sym (closes_as e ∙ order-ok 1 _ _ _ (eq-eqb (length s) _ (long ∙ ap (λ (u : List ℕ). state_length (form_in u)) (came e).1)) ∙ order-refused 9 _ _ _ ok)

    refuses : said_outcome x ≡ tick_says s event
    refuses = go all refl
      where
        go : (b : Bool) → all ≡ b → said_outcome x ≡ tick_says s event
        go true e = broken e (state_ok (tick_leaves s event)) refl
        go false e = ended e

    pub tick-refused : {k : Counts} → ZeroFrom (end_of k) t → TicksOnce s k event s t x
    tick-refused z = record { says = refuses; leaves = sym (refused-leaves why (tick_says s event) _ s (sym (ap said_outcome is) ∙ refuses)); zeros = z }

  -- where it does not, the close follows
  module _ (is : x ≡ Ok tt) where
    all-accepted : all ≡ true
    all-accepted = go all refl
      where
        go : (b : Bool) → all ≡ b → all ≡ true
        go true e = e
        go false e =
            let n : (given_under s event).says.number ≡ 0 = sym (ap (λ (a : Said). a.number) (sym (ap said_outcome is) ∙ said-first e)) in
            absurd (eqb-false _ _ e n)

    pub given-number : (given_under s event).says.number ≡ 0
    given-number = eqb-true _ _ all-accepted

    pub given-leaves : t ≡ tick_leaves s event
    given-leaves = (came all-accepted).1

    pub tick-closed : {k : Counts} {s' : List ℕ} {answer : Result ⊤ Refusal} → ZeroFrom (end_of k) t → Closes t s s' answer → TicksOnce s k event s' t answer
    tick-closed {k} {s'} {answer} z h =
        let says : close_says t (length s) ≡ tick_says s event = ap (λ (u : List ℕ). close_says u (length s)) given-leaves ∙ sym (closes_as all-accepted) in
        record {
          says = h.says ∙ says;
          leaves = h.leaves ∙ ap (λ (u : List ℕ). close_leaves u s) given-leaves ∙ left-twice _ _ s ∙ ap (λ (a : Said). left a (closed_to s event) s) (sym (closes_as all-accepted));
          zeros = z;
        }
