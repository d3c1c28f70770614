-- What is known of a state once it is opened, and of a slot that is in it. Assumes nothing: these are definitions.
use Rattle.std.specs.Prelude.{◌≡◌, true, List, ℕ, ◌<◌}
use Rattle.state.specs.declared.Counts.{Counts}
use Rattle.state.specs.Fields.{board_of_in}
use Rattle.state.specs.Clauses.{state_ok}
use Rattle.state.specs.Counted.{Header, Sized, InStretch}

-- a state that passes its check, and its counts
pub record Opened (s : List ℕ) (c : Counts) : Type 0 where
  pub passes : state_ok s ≡ true
  pub header : Header s c

-- slot k is there, it lies in its stretch, and its board is there
pub record SlotThere (s : List ℕ) (c : Counts) (k : ℕ) : Type 0 where
  pub sized : Sized s c
  pub number : k < c.slots
  pub stretch : InStretch s k
  pub board : board_of_in s k < c.boards
