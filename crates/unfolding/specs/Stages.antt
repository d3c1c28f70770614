-- Where an unfolding stands between two turns, and what a turn asks and gives. Assumes nothing: these are definitions.
use Rattle.std.specs.Prelude.{◌≡◌, List, ◌∷◌, ◌++◌, map, ℕ, ◌+◌, ◌<◌, ◌≤◌, length, take, drop}
use Rattle.limits.specs.Limits.{nodes_room}
use Rattle.outlining.specs.Outlined.{Outlined}
use Rattle.unfolding.specs.Tasks.{Task, here, task_code, Todo}

-- the reading has come to r, w bytes are written and outlined, the tasks ts stand from k on, and bs is still to be written
pub record Stage (s out notes : List ℕ) (r w k : ℕ) (ts : List Task) (bs : List ℕ) : Type 0 where
  pub stack : drop k notes ≡ map task_code ts
  pub todo : Todo s r ts bs
  pub within : k ≤ length notes
  pub few : length s ≤ nodes_room
  pub room : w + length bs ≤ length out
  pub beside : w + length bs ≤ length notes
  pub outlined : Outlined out notes w

-- from a stage with w bytes written and bs to be written: more is written, and what is written and to be written is the same in all
pub record StageAfter (s out : List ℕ) (w : ℕ) (bs out' notes' : List ℕ) (r' w' k' : ℕ) : Type 0 where
  pub tasks : List Task
  pub bytes : List ℕ
  pub stage : Stage s out' notes' r' w' k' tasks bytes
  pub further : w < w'
  pub whole : take w' out' ++ bytes ≡ take w out ++ bs
  pub behind : drop (w' + length bytes) out' ≡ drop (w + length bs) out

-- what a turn asks: something is to be done
pub record Busy (s out notes : List ℕ) (r w k : ℕ) : Type 0 where
  pub tasks : List Task
  pub bytes : List ℕ
  pub stage : Stage s out notes r w k tasks bytes
  pub more : k < length notes

-- a turn: from whatever stage stands there, a further one
abbrev pub Turns : List ℕ → List ℕ → List ℕ → ℕ → ℕ → ℕ → List ℕ → List ℕ → ℕ → ℕ → ℕ → Type 0
Turns s out notes r w k out' notes' r' w' k' =
    (ts : List Task) (bs : List ℕ) → Stage s out notes r w k ts bs → StageAfter s out w bs out' notes' r' w' k'

-- what a node asks: a formula is to be unfolded where the reading has come to
pub record BusyHere (s out notes : List ℕ) (r w k : ℕ) : Type 0 where
  pub tasks : List Task
  pub bytes : List ℕ
  pub stage : Stage s out notes r w k (here ∷ tasks) bytes

-- the same where a formula is to be unfolded
abbrev pub TurnsHere : List ℕ → List ℕ → List ℕ → ℕ → ℕ → ℕ → List ℕ → List ℕ → ℕ → ℕ → ℕ → Type 0
TurnsHere s out notes r w k out' notes' r' w' k' =
    (ts : List Task) (bs : List ℕ) → Stage s out notes r w k (here ∷ ts) bs → StageAfter s out w bs out' notes' r' w' k'
