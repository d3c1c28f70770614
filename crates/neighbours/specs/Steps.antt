-- The step to a record by its place, and the mark by the step. Assumes nothing: these are definitions.
use Rattle.std.specs.Prelude.{◌≡◌, ℕ, zero, suc, ◌<◌, List, ◌==◌}
use Rattle.lists.specs.Tests.{pick}
use Rattle.recordings.specs.Records.{Record, step_from, kept, dropped, broken}
use Rattle.recordings.specs.Recording.{record_in}

-- the step to the record at a place; to the first it is 1
unfoldable pub step_by : (ℕ → Record) → ℕ → ℕ
step_by f zero = 1
step_by f (suc i) = step_from (f i).counter (f (suc i)).counter

-- the mark of a record that does not clash
unfoldable pub mark_of_step : ℕ → ℕ
mark_of_step step = pick (step == 0) dropped (pick (step == 1) kept broken)

-- the step from this counter to record i is that to record i
abbrev pub StepsTo : List ℕ → ℕ → ℕ → Type 0
StepsTo s i before = step_from before (record_in s i).counter ≡ step_by (record_in s) i

-- the same of the first of n records, where there is one
abbrev pub StepsToFirst : List ℕ → ℕ → ℕ → Type 0
StepsToFirst s n before = 0 < n → StepsTo s 0 before
