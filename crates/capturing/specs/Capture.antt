-- A run of events in one call: the answer, and both buffers. Assumes nothing: these are definitions.
use Rattle.answers.specs.declared.Refusal.{Refusal}
use Rattle.std.specs.Prelude.{◌≡◌, not, List, [], ◌∷◌, ℕ, length, replicate, eqb, Result, Ok, Err}
use Rattle.answers.specs.Said.{Said, accepted, refused, left, number_of, verdict_number, said_outcome, check, in_order}
use Rattle.state.specs.Form.{form_in, state_length}
use Rattle.state.specs.Clauses.{state_ok}
use Rattle.state.specs.Calls.{finished_in, verdict_in}
use Rattle.course.specs.Course.{Course, coursed}
use Rattle.capturing.specs.declared.Captured.{Captured}

-- what is told of a run: how many events were closed, how the state stands that it leaves, and the number of the refusal at which it
-- stopped, 0 where there was none
abbrev pub told : Course → List ℕ
told r = r.closed ∷ verdict_number (verdict_in r.leaves) ∷ r.refusal ∷ []

-- what may refuse the call itself; then it runs
unfoldable pub capture_says : List ℕ → ℕ → List ℕ → Said
capture_says s room events =
    in_order
    (check 1 (eqb room (state_length (form_in s)))
    ∷ check 9 (state_ok s)
    ∷ check 10 (not (finished_in s))
    ∷ [])
    (accepted (told (coursed s events)))

-- the first buffer, and the second, which ends all zero
abbrev pub capture_leaves : List ℕ → ℕ → List ℕ → List ℕ
capture_leaves s room events = left (capture_says s room events) (coursed s events).leaves s

abbrev pub capture_second : List ℕ → List ℕ → List ℕ → List ℕ
capture_second s second events = left (capture_says s (length second) events) (replicate (length second) 0) second

-- the values of the answer, and the enum's cases by number and values
abbrev pub values_of : Captured → List ℕ
values_of c = c.closed ∷ verdict_number c.verdict ∷ (said_outcome c.stop).number ∷ []

abbrev pub said_capture : Result Captured Refusal → Said
said_capture (Err why) = refused (number_of why)
said_capture (Ok c) = accepted (values_of c)

-- the promise: the answer, and both buffers
pub record Captures (s second events s' second' : List ℕ) (answer : Result Captured Refusal) : Type 0 where
  pub says : said_capture answer ≡ capture_says s (length second) events
  pub leaves : s' ≡ capture_leaves s (length second) events
  pub leaves-second : second' ≡ capture_second s second events
