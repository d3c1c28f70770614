-- The promise of `capture` as a run of events. It answers with a run exactly where it may (`captured-where`); then it comes to what the run
-- comes to (`capture-passed`), whatever comes to that is allowed (`capture-of`), and something does (`capture-exists`). `capture-case`: it may
-- run, or it is refused whatever the events are. Assumes nothing.
use Rattle.std.specs.Prelude.{Result, Ok, Err}
use mathlib.Core.Path.{◌≡◌, refl, sym, ap, ◌∙◌, subst}
use mathlib.Core.Bool.{Bool, true, false, not}
use mathlib.Core.List.{List, ◌∷◌, []}
use Prim.Native.Nat.{ℕ}
use native.Mathlib.Decide.{ℕ_discrete}
use native.Mathlib.Omega.{arith}
use lib.ListN.{length, get_or, replicate}
use borrow.Author.Tests.{eq-eqb}
use Rattle.answers.specs.declared.Refusal.{Refusal}
use Rattle.answers.specs.declared.Refusal.TheVariants.{Length, State, Finished}
use Rattle.answers.specs.declared.Verdict.{Verdict}
use Rattle.answers.specs.Said.{Said, accepted, refused, left, verdict_number, said_outcome}
use Rattle.answers.proofs.Answers.{number-some, verdict-injective, left-accepted, order-ok, order-done}
use Rattle.state.specs.Form.{form_in, state_length}
use Rattle.state.specs.Clauses.{state_ok}
use Rattle.state.specs.Calls.{finished_in, verdict_in}
use Rattle.checked.proofs.Checked.{checked}
use Rattle.course.specs.Course.{Course, coursed}
use Rattle.capturing.specs.declared.Captured.{Captured}
use Rattle.capturing.specs.Capture.{told, capture_says, values_of, said_capture, Captures}
use Rattle.capturing.proofs.Outcomes.{capture-length, capture-state, capture-finished, capture-ran}
use Rattle.capturing.proofs.Determined.{captures-determined}
use Rattle.demand.specs.Capturing.{MayCapture, ran_to}
use Rattle.demand.proofs.Singly.{singly-coursed}
use Rattle.demand.proofs.SinglyMade.{singly-exists}

-- ---- where it is accepted
-- it may run, or it is refused and leaves both buffers, whatever the events are
pub data CaptureCase (s second : List ℕ) : Type 0 where
  may-run : MayCapture s second → CaptureCase s second
  not-run : (why : Refusal) → ((events : List ℕ) → Captures s second events s second (Err why)) → CaptureCase s second

pub capture-case : (s second : List ℕ) → CaptureCase s second
capture-case s second = measured (ℕ_discrete (length second) (state_length (form_in s)))
  where
    opened : length second ≡ state_length (form_in s) → state_ok s ≡ true → (b : Bool) → finished_in s ≡ b → CaptureCase s second
    opened long ok true f = not-run Finished (λ events. capture-finished s second events long ok f)
    opened long ok false f = may-run (record { long = long; passes = ok; unfinished = f })

    lent : length second ≡ state_length (form_in s) → (b : Bool) → state_ok s ≡ b → CaptureCase s second
    lent long true ok = opened long ok (finished_in s) refl
    lent long false e = not-run State (λ events. capture-state s second events long e)

    measured : Dec (length second ≡ state_length (form_in s)) → CaptureCase s second
    measured (yes long) = lent long (state_ok s) refl
    measured (no h) = not-run Length (λ events. capture-length s second events h)

-- a run is no refusal
run-refused : (c : Captured) (why : Refusal) → Ok c ≡ Err why → ⊥
run-refused c why e = let n = ap (λ (a : Result Captured Refusal). (said_capture a).number) e in omega (arith, number-some why)

may_of : {s second events s' second' : List ℕ} {c : Captured} → Captures s second events s' second' (Ok c) → MayCapture s second
may_of {s} {second} {events} {s'} {second'} {c} x = go (capture-case s second)
  where
    go : CaptureCase s second → MayCapture s second
    go (may-run m) = m
    go (not-run why f) = absurd (run-refused c why (captures-determined s second events s' s second' second (Ok c) (Err why) x (f events)).0)

-- what it says where it may
may-says : {s second : List ℕ} → MayCapture s second → (events : List ℕ) → capture_says s (length second) events ≡ accepted (told (coursed s events))
unfolding capture_says
may-says {s} {second} m events =
    order-ok 1 _ _ _ (eq-eqb (length second) (state_length (form_in s)) m.long) ∙ order-ok 9 _ _ _ m.passes ∙ order-ok 10 _ _ _ (ap not m.unfinished) ∙ order-done _

-- so it is not refused there
pub may-refused : {s second events s' second' : List ℕ} {why : Refusal} → MayCapture s second → Captures s second events s' second' (Err why) → ⊥
may-refused {events = events} {why = why} m x = let n = ap (λ (a : Said). a.number) (x.says ∙ may-says m events) in omega (arith, number-some why)

pub captured-where : {s second events s' second' : List ℕ} {answer : Result Captured Refusal} → Captures s second events s' second' answer
    → (MayCapture s second → (c : Captured) × (answer ≡ Ok c)) × ((c : Captured) → answer ≡ Ok c → MayCapture s second)
captured-where {s} {second} {events} {s'} {second'} {answer} x = (λ m. go m answer x, λ c e. may_of (subst (λ (a : Result Captured Refusal). Captures s second events s' second' a) e x))
  where
    go : MayCapture s second → (a : Result Captured Refusal) → Captures s second events s' second' a → (c : Captured) × (a ≡ Ok c)
    go m (Ok c) y = (c, refl)
    go m (Err why) y = absurd (may-refused m y)

-- ---- what it comes to
pub record CapturePassed (s second events s' second' : List ℕ) (c : Captured) : Type 0 where
  pub may : MayCapture s second
  pub ran : ran_to c s' ≡ coursed s events
  pub verdict : c.verdict ≡ verdict_in s'
  pub clears : second' ≡ replicate (length second) 0

pub capture-passed : {s second events s' second' : List ℕ} {c : Captured} → Captures s second events s' second' (Ok c) → CapturePassed s second events s' second' c
capture-passed {s} {second} {events} {s'} {second'} {c} x =
    let m = may_of x in
    let says = may-says m events in
    let values : values_of c ≡ told (coursed s events) = ap (λ (a : Said). a.values) (x.says ∙ says) in
    let leaves : s' ≡ (coursed s events).leaves = x.leaves ∙ ap (λ (a : Said). left a (coursed s events).leaves s) says ∙ left-accepted _ _ s in
    let closed : c.closed ≡ (coursed s events).closed = ap (λ (l : List ℕ). get_or l 0 0) values in
    let stop : (said_outcome c.stop).number ≡ (coursed s events).refusal = ap (λ (l : List ℕ). get_or l 2 0) values in
    record {
      may = m;
      ran = λ i. record { closed = closed i; refusal = stop i; leaves = leaves i };
      verdict = verdict-injective c.verdict (verdict_in (coursed s events).leaves) (ap (λ (l : List ℕ). get_or l 1 0) values) ∙ ap verdict_in (sym leaves);
      clears = x.leaves-second ∙ ap (λ (a : Said). left a (replicate (length second) 0) second) says ∙ left-accepted _ _ second;
    }

pub capture-of : {s second events s' second' : List ℕ} {c : Captured} → CapturePassed s second events s' second' c → Captures s second events s' second' (Ok c)
capture-of {s} {second} {events} {s'} {second'} {c} p =
    let m = p.may in
    let r = p.ran in
    capture-ran s second events m.long m.passes m.unfinished
    (record {
      tells = ap (λ (v : Verdict). c.closed ∷ verdict_number v ∷ (said_outcome c.stop).number ∷ []) p.verdict ∙ ap told r;
      leaves = ap (λ (q : Course). q.leaves) r;
      clears = p.clears;
    })

-- the second buffer has the state's length
pub may-length : {s second : List ℕ} → MayCapture s second → length second ≡ length s
may-length {s} m = m.long ∙ sym (checked s m.passes).long

pub capture-exists : {s second : List ℕ} → MayCapture s second → (events : List ℕ)
    → (c : Captured) × Captures s second events (coursed s events).leaves (replicate (length second) 0) (Ok c)
capture-exists {s} {second} m events =
    let single = singly-exists events s second in
    let e = singly-coursed m.passes (may-length m) single.3 in
    let c : Captured = record { closed = (coursed s events).closed; verdict = verdict_in (coursed s events).leaves; stop = single.1 } in
    (c, capture-of (record { may = m; ran = λ i. record { closed = (coursed s events).closed; refusal = e.1 i; leaves = (coursed s events).leaves }; verdict = refl; clears = refl }))
