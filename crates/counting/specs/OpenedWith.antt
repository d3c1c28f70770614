-- A state that was opened, with its table of owners. Assumes nothing: these are definitions.
use Rattle.std.specs.Prelude.{ℕ, List}
use Rattle.masks.specs.Masks.{sum_ones}
use Rattle.scores.specs.Owned.{Table, Owned}
use Rattle.state.specs.declared.Counts.{Counts}
use Rattle.state.specs.Fields.{masks_in}
use Rattle.state.specs.Opened.{Opened}

-- a state that passes, its counts and its table of owners
pub record OpenedWith (s : List ℕ) (c : Counts) (owner : List ℕ) : Type 0 where
  pub opened : Opened s c
  pub table : Table owner
  pub owned : Owned (sum_ones (masks_in s)) (masks_in s) owner
