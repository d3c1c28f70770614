-- A network spread out: each slot that is reached unfolded and tagged somewhere in one run of bytes. Assumes nothing: these are
-- definitions.
use Rattle.std.specs.Prelude.{◌≡◌, ℕ, ◌≤◌, List, length, take}
use Rattle.state.specs.declared.Counts.{Counts}
use Rattle.limits.specs.Limits.{nodes_room}
use Rattle.state.specs.Bytes.{nodes_of}
use Rattle.state.specs.Calls.{next_in}
use Rattle.counting.specs.OpenedWith.{OpenedWith}
use Rattle.storing.specs.Stores.{LaidOut}

-- the network that it closes to is within the limit, and there is room for as much
pub record SpreadAsk (s : List ℕ) (c : Counts) (owner u tags : List ℕ) : Type 0 where
  pub known : OpenedWith s c owner
  pub few : nodes_of (next_in s) ≤ nodes_room
  pub u-long : length u ≡ nodes_room
  pub tags-long : length tags ≡ nodes_room

pub record Spreads (s u' tags' : List ℕ) (end : ℕ) : Type 0 where
  pub inside : end ≤ length u'
  pub laid_out : LaidOut (take end u') tags' (next_in s)
