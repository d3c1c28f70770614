-- The call `capture` by its promise: where it is accepted, the run that its answer tells of, and its events split over two calls. Assumes
-- nothing: these are definitions.
use Rattle.answers.specs.declared.Refusal.{Refusal}
use Rattle.std.specs.Prelude.{◌≡◌, true, false, List, ℕ, ◌+◌, length, Result, Ok, Err}
use Rattle.answers.specs.declared.Verdict.TheVariants.{Pending}
use Rattle.answers.specs.Said.{said_outcome}
use Rattle.state.specs.Form.{form_in, state_length}
use Rattle.state.specs.Clauses.{state_ok}
use Rattle.state.specs.Calls.{finished_in}
use Rattle.course.specs.Course.{Course}
use Rattle.capturing.specs.declared.Captured.{Captured}
use Rattle.capturing.specs.Capture.{Captures}

-- the second buffer has the length of the state's form, and the state passes its check and is not finished
pub record MayCapture (s second : List ℕ) : Type 0 where
  pub long : length second ≡ state_length (form_in s)
  pub passes : state_ok s ≡ true
  pub unfinished : finished_in s ≡ false

-- the run that an accepted capture tells of: how many events were closed and the number of the stop, by its answer, and the state that it left
abbrev pub ran_to : Captured → List ℕ → Course
ran_to c s' = record { closed = c.closed; refusal = (said_outcome c.stop).number; leaves = s' }

-- the answer is of a run to the end of its events that has no verdict
pub record RanThrough (answer : Result Captured Refusal) (c : Captured) : Type 0 where
  pub accepts : answer ≡ Ok c
  pub stops : c.stop ≡ Ok tt
  pub pending : c.verdict ≡ Pending

-- a capture of some events and further ones leaves s' and second' and answers a; one of the first ones alone leaves t and r and answers b
pub record Splits (further s' second' : List ℕ) (a : Result Captured Refusal) (t r : List ℕ) (b : Result Captured Refusal) : Type 0 where
  -- where the second one ran to its end without a verdict, a capture of the further events on what it left is accepted: it leaves what the
  -- first one leaves, and the first one's answer is its own, with the events closed by both
  pub goes_on : (c : Captured) → RanThrough b c → (t' r' : List ℕ) (answer : Result Captured Refusal) → Captures t r further t' r' answer
      → (d : Captured) × (answer ≡ Ok d) × (a ≡ Ok (record { closed = c.closed + d.closed; verdict = d.verdict; stop = d.stop })) × (s' ≡ t') × (second' ≡ r')
  -- where it stopped before, at a verdict or at a refusal, or was refused itself, the further events change nothing
  pub stays : ((c : Captured) → RanThrough b c → ⊥) → (a ≡ b) × (s' ≡ t) × (second' ≡ r)
