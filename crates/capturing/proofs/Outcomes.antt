-- The ways out of the call: each refusal (`capture-length`, `capture-state`, `capture-finished`), and what a run comes to (`ran-all`,
-- `capture-ran`). Assumes nothing.
use Rattle.std.specs.Prelude.{Ok, Err}
use mathlib.Core.Path.{◌≡◌, sym, ap, ap₂, ◌∙◌}
use mathlib.Core.Bool.{true, false, not}
use mathlib.Core.List.{List, ◌++◌}
use Prim.Native.Nat.{ℕ, ◌+◌, ◌-◌}
use native.Mathlib.Omega.{arith}
use lib.ListN.{length, take, drop, replicate, replicate-append-replicate}
use lib.Seq.{length-take-le}
use lib.Dec.{eqb}
use borrow.Author.Tests.{eq-eqb, ne_eqb}
use Rattle.answers.specs.declared.Refusal.{Refusal}
use Rattle.answers.specs.declared.Refusal.TheVariants.{Length, State, Finished}
use Rattle.answers.specs.Said.{Said, accepted, refused, left, number_of}
use Rattle.answers.proofs.Answers.{left-accepted, left-refused, order-ok, order-refused, order-done}
use Rattle.state.specs.Form.{form_in, state_length}
use Rattle.state.specs.Clauses.{state_ok}
use Rattle.state.specs.Calls.{finished_in}
use Rattle.course.specs.Course.{coursed}
use Rattle.capturing.specs.declared.Captured.{Captured}
use Rattle.capturing.specs.declared.running.Ran.{Ran}
use Rattle.capturing.specs.Capture.{told, capture_says, Captures}
use Rattle.capturing.specs.Running.{Runs, RanAll}

-- the run's events, and the second buffer cleared up to where it was used
pub ran-all : {s second events s' second' : List ℕ} {r : Ran} → Runs s events s' second' r → length second' ≡ length second → (x : List ℕ) → x ≡ replicate (length (take r.used second')) 0
    → {second'' : List ℕ} → second'' ≡ x ++ drop r.used second' → RanAll s second events s' second'' r.captured
ran-all {second = second} {second' = second'} {r = r} h long x e {second''} f =
    let i = h.zeros.inside in
    let used = r.used in
    let z : replicate {A = ℕ} used 0 ++ replicate (length second' - used) 0 ≡ replicate (length second) 0 =
    replicate-append-replicate used (length second' - used) 0 ∙ ap (λ (n : ℕ). replicate {A = ℕ} n 0) {x = used + (length second' - used)} {y = length second} (omega arith) in
    record {
      tells = h.tells;
      leaves = h.leaves;
      clears = f ∙ ap₂ ◌++◌ (e ∙ ap (λ (n : ℕ). replicate {A = ℕ} n 0) (length-take-le used second' i)) h.zeros.zeros ∙ z;
    }

module _ (s second events : List ℕ) where
  -- a refusal leaves both buffers as they were
  refusal : (why : Refusal) → capture_says s (length second) events ≡ refused (number_of why) → Captures s second events s second (Err why)
  refusal why e =
      record {
        says = sym e;
        leaves = sym (ap (λ (x : Said). left x (coursed s events).leaves s) e ∙ left-refused why _ s);
        leaves-second = sym (ap (λ (x : Said). left x (replicate (length second) 0) second) e ∙ left-refused why _ second);
      }

  pub capture-length : (length second ≡ state_length (form_in s) → ⊥) → Captures s second events s second (Err Length)
  unfolding capture_says
  capture-length h = refusal Length (order-refused 1 _ _ _ (ne_eqb (length second) (state_length (form_in s)) h))

  module _ (long : length second ≡ state_length (form_in s)) where
    long_ok : eqb (length second) (state_length (form_in s)) ≡ true
    long_ok = eq-eqb (length second) (state_length (form_in s)) long

    pub capture-state : state_ok s ≡ false → Captures s second events s second (Err State)
    unfolding capture_says
    capture-state e = refusal State (order-ok 1 _ _ _ long_ok ∙ order-refused 9 _ _ _ e)

    module _ (ok : state_ok s ≡ true) where
      pub capture-finished : finished_in s ≡ true → Captures s second events s second (Err Finished)
      unfolding capture_says
      capture-finished e = refusal Finished (order-ok 1 _ _ _ long_ok ∙ order-ok 9 _ _ _ ok ∙ order-refused 10 _ _ _ (ap not e))

      pub capture-ran : finished_in s ≡ false → {s' second' : List ℕ} {c : Captured} → RanAll s second events s' second' c → Captures s second events s' second' (Ok c)
      unfolding capture_says
      capture-ran going h =
          let says : capture_says s (length second) events ≡ accepted (told (coursed s events)) =
          order-ok 1 _ _ _ long_ok ∙ order-ok 9 _ _ _ ok ∙ order-ok 10 _ _ _ (ap not going) ∙ order-done _ in
          record {
            says = ap accepted h.tells ∙ sym says;
            leaves = h.leaves ∙ sym (ap (λ (x : Said). left x (coursed s events).leaves s) says ∙ left-accepted _ _ s);
            leaves-second = h.clears ∙ sym (ap (λ (x : Said). left x (replicate (length second) 0) second) says ∙ left-accepted _ _ second);
          }
