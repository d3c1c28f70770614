-- A run of events comes to what single calls come to, whatever these do that their promises allow: as many closed events, the same number
-- of a refusal and the same last state (`singly-coursed`); tick by tick it is `singly-ticked`. Assumes nothing.
use Rattle.std.specs.Prelude.{Result, Ok, Err, ⊤}
use mathlib.Core.Path.{◌≡◌, refl, sym, ap, ap₂, ◌∙◌}
use mathlib.Core.Bool.{Bool, true, false}
use mathlib.Core.List.{List, []}
use Prim.Native.Nat.{ℕ, ◌+◌, ◌<◌}
use native.Mathlib.Omega.{arith}
use lib.ListN.{length}
use lib.Dec.{eqb}
use borrow.Author.Tests.{ne_eqb}
use Rattle.lists.specs.Tests.{pick}
use Rattle.answers.specs.declared.Refusal.{Refusal}
use Rattle.answers.specs.declared.Refusal.TheVariants.{Outside}
use Rattle.answers.specs.Said.{Said, accepted, refused, left, number_of, said_outcome}
use Rattle.answers.proofs.Answers.{number-some, order-ok, order-done}
use Rattle.state.specs.Form.{form_in}
use Rattle.state.specs.Fields.{boards_in, slots_in, ticks_in, masks_in}
use Rattle.state.specs.Clauses.{state_ok}
use Rattle.state.specs.Bytes.{state_of}
use Rattle.state.specs.Calls.{next_in, close_says}
use Rattle.keeping.proofs.Calls.{accepted-leaves}
use Rattle.closing.specs.Close.{Closes}
use Rattle.course.specs.Given.{After, after, follow, sampled_from, stepped_below, taken_by, given_under}
use Rattle.course.specs.Ticked.{tick_leaves, tick_says, closed_to}
use Rattle.course.specs.Course.{Course, stopped, one_more, coursed}
use Rattle.course.proofs.Following.{follow-accepted, follow-refused, sampled-done, sampled-more, sampled-refused, stepped-done, stepped-more, stepped-refused}
use Rattle.course.proofs.InOrder.{tick-closes}
use Rattle.course.proofs.Closing.{tick-stepped, closed-tick}
use Rattle.course.proofs.Coursing.{coursed-end, coursed-finished, coursed-refused, coursed-more}
use Rattle.demand.specs.Stopping.{covers}
use Rattle.demand.specs.Singly.{SampledSingly, no-board, sample-refused, sample-then, SteppedSingly, no_slot, step-refused, step_then, TickedSingly, outside, in-samples, in-steps, in-close, RunSingly, no-event, finished, tick-refused, tick-then}
use Rattle.keeping.proofs.Refused.{refused-leaves}
use Rattle.demand.proofs.Ticking.{given-outside}

-- ---- the samples and the steps
refused-number : (why : Refusal) (a : Said) → refused (number_of why) ≡ a → 0 < a.number
refused-number why a e = let n = ap (λ (b : Said). b.number) e in omega (arith, number-some why)

singly-sampled : {event n i : ℕ} {s s' : List ℕ} {answer : Result ⊤ Refusal} → SampledSingly event n i s s' answer → sampled_from n event i s ≡ after (said_outcome answer) s'
singly-sampled {event} (no-board {i = i} {s = s}) = sampled-done event i s
singly-sampled {event} (sample-refused {n = n} {i = i} {s = s} {why = why} x) =
    sampled-refused n event i s (refused-number why _ x.says) ∙ (λ j. after (sym x.says j) (sym x.leaves j))
singly-sampled {event} (sample-then {n = n} {i = i} {s = s} x rest) =
    sampled-more n event i s (sym x.says) ∙ ap (sampled_from n event (i + 1)) (sym x.leaves) ∙ singly-sampled rest

singly-stepped : {k : ℕ} {s s' : List ℕ} {answer : Result ⊤ Refusal} → SteppedSingly k s s' answer → stepped_below k s ≡ after (said_outcome answer) s'
singly-stepped (no_slot {s = s}) = stepped-done s
singly-stepped (step-refused {k = k} {s = s} {why = why} x) = stepped-refused k s (refused-number why _ x.says) ∙ (λ j. after (sym x.says j) (sym x.leaves j))
singly-stepped (step_then {k = k} {s = s} x rest) = stepped-more k s (sym x.says) ∙ ap (stepped_below k) (sym x.leaves) ∙ singly-stepped rest

-- ---- a tick
-- a buffer that is written where a call is accepted, twice
left-twice : (a : Said) (x y z : List ℕ) → left a (left a x y) z ≡ left a x z
unfolding left pick
left-twice a x y z = go (eqb a.number 0)
  where
    go : (b : Bool) → pick b (pick b x y) z ≡ pick b x z
    go true = refl
    go false = refl

-- what single calls of a tick come to: its answer, the state, and the other buffer, written where the tick was accepted
abbrev pub TickSame : ℕ → List ℕ → List ℕ → List ℕ → List ℕ → Result ⊤ Refusal → Type 0
TickSame event s second s' second' answer = (said_outcome answer ≡ tick_says s event) × (s' ≡ tick_leaves s event) × (second' ≡ left (tick_says s event) (closed_to s event) second)

module _ (s : List ℕ) (event : ℕ) where
  says-refused : (a : Said) → (given_under s event).says ≡ a → 0 < a.number → tick_says s event ≡ a
  unfolding tick_says pick
  says-refused a e h = let n = ap (λ (b : Said). b.number) e in rw (ne_eqb (given_under s event).says.number 0 (λ q. omega arith)) e

  -- refused before the close
  same-refused : (second s' : List ℕ) (why : Refusal) → given_under s event ≡ after (refused (number_of why)) s' → TickSame event s second s' second (Err why)
  same-refused second s' why g =
      let says = says-refused (refused (number_of why)) (ap (λ (a : After). a.says) g) (number-some why) in
      (sym says, sym (ap (λ (a : After). a.leaves) g), sym (refused-leaves why (tick_says s event) (closed_to s event) second (sym says)))

  -- up to the close
  same-closed : (second s' second' : List ℕ) (answer : Result ⊤ Refusal) → length second ≡ length s → given_under s event ≡ after (accepted []) s' → Closes s' second second' answer → TickSame event s second s' second' answer
  same-closed second s' second' answer long g x =
      let is : s' ≡ tick_leaves s event = sym (ap (λ (a : After). a.leaves) g) in
      let tick = tick-closes s event (ap (λ (a : After). a.says) g) in
      let says : close_says s' (length second) ≡ tick_says s event = ap₂ close_says is long ∙ sym tick in
      let next : List ℕ → List ℕ = λ u. state_of (form_in u) (masks_in u) (next_in u) (ticks_in u + 1) in (
        x.says ∙ says,
        is,
        x.leaves ∙ ap₂ (λ (a : Said) (u : List ℕ). left a (next u) second) says is ∙ sym (left-twice (tick_says s event) (next (tick_leaves s event)) s second)
            ∙ ap (λ (a : Said). left (tick_says s event) (left a (next (tick_leaves s event)) s) second) tick,
      )

  module _ (ok : state_ok s ≡ true) (inside : covers (masks_in s) event ≡ true) where
    taken : taken_by s event ≡ accepted []
    unfolding taken_by
    taken = order-ok 9 _ _ _ ok ∙ order-ok 12 _ _ _ inside ∙ order-done _

    boards : (a : After) → sampled_from (boards_in s) event 0 s ≡ a → given_under s event ≡ follow a (stepped_below (slots_in s))
    unfolding given_under
    boards a e =
        ap (λ (b : After). follow b (stepped_below (slots_in s))) (follow-accepted (after (taken_by s event) s) (sampled_from (boards_in s) event 0) taken ∙ e)

    given-sampled : (s' : List ℕ) (why : Refusal) → SampledSingly event (boards_in s) 0 s s' (Err why) → given_under s event ≡ after (refused (number_of why)) s'
    given-sampled s' why x = boards _ (singly-sampled x) ∙ follow-refused (after (refused (number_of why)) s') (stepped_below (slots_in s)) (number-some why)

    given-stepped : (t s' : List ℕ) (answer : Result ⊤ Refusal) → SampledSingly event (boards_in s) 0 s t (Ok tt) → SteppedSingly (slots_in s) t s' answer → given_under s event ≡ after (said_outcome answer) s'
    given-stepped t s' answer x y = boards _ (singly-sampled x) ∙ follow-accepted (after (accepted []) t) (stepped_below (slots_in s)) refl ∙ singly-stepped y

pub singly-ticked : {event : ℕ} {s second s' second' : List ℕ} {answer : Result ⊤ Refusal} → state_ok s ≡ true → length second ≡ length s → TickedSingly event s second s' second' answer
    → TickSame event s second s' second' answer
singly-ticked {event} ok long (outside {s = s} {second = second} out) = same-refused s event second s Outside (given-outside s event ok out)
singly-ticked {event} ok long (in-samples {s = s} {second = second} {s' = s'} {why = why} inside x) = same-refused s event second s' why (given-sampled s event ok inside s' why x)
singly-ticked {event} ok long (in-steps {s = s} {second = second} {t = t} {s' = s'} {why = why} inside x y) =
    same-refused s event second s' why (given-stepped s event ok inside t s' (Err why) x y)
singly-ticked {event} ok long (in-close {s = s} {second = second} {t = t} {s' = s'} {second' = second'} {answer = answer} inside x y c) =
    same-closed s event second s' second' answer long (given-stepped s event ok inside t s' (Ok tt) x y) c

-- ---- a run
-- what single calls come to, as a run
abbrev ran : ℕ → Result ⊤ Refusal → List ℕ → Course
ran closed answer last = record { closed = closed; refusal = (said_outcome answer).number; leaves = last }

course-same : {s second events : List ℕ} {closed : ℕ} {answer : Result ⊤ Refusal} {last : List ℕ} → state_ok s ≡ true → length second ≡ length s → RunSingly s second events closed answer last
    → coursed s events ≡ ran closed answer last
course-same ok long (no-event {s = s}) = coursed-end s
course-same ok long (finished {s = s} {events = events} f) = coursed-finished s events f
course-same ok long (tick-refused {s = s} {event = event} {events = events} {why = why} f x) =
    let says = (singly-ticked ok long x).0 in
    coursed-refused s event events f (refused-number why _ says) ∙ ap (λ (a : Said). stopped a.number s) (sym says)
course-same ok long (tick-then {s = s} {second = second} {s' = s'} {second' = second'} {event = event} {events = events} f x rest) =
    let t = singly-ticked ok long x in
    let says = sym t.0 in
    let c = closed-tick s ok f event says in
    let is : second' ≡ closed_to s event = t.2 ∙ accepted-leaves (tick_says s event) (closed_to s event) second says in
    let same : length s' ≡ length second' = ap length t.1 ∙ (tick-stepped s ok f event says).frame.long ∙ sym c.long ∙ ap length (sym is) in
    coursed-more s event events f (ap (λ (a : Said). a.number) says) ∙ ap (λ (u : List ℕ). one_more (coursed u events)) (sym is) ∙ ap one_more (course-same (ap state_ok is ∙ c.passes) same rest)

pub singly-coursed : {s second events : List ℕ} {closed : ℕ} {answer : Result ⊤ Refusal} {last : List ℕ} → state_ok s ≡ true → length second ≡ length s → RunSingly s second events closed answer last
    → (closed ≡ (coursed s events).closed) × ((said_outcome answer).number ≡ (coursed s events).refusal) × (last ≡ (coursed s events).leaves)
singly-coursed ok long x =
    let e = sym (course-same ok long x) in
    (ap (λ (r : Course). r.closed) e, ap (λ (r : Course). r.refusal) e, ap (λ (r : Course). r.leaves) e)
