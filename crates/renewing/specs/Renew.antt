-- The next state of a watch, and what putting it asks. Assumes nothing: these are definitions.
use Rattle.std.specs.Prelude.{◌≡◌, ℕ, ◌+◌, ◌<◌, ◌≤◌, ◌^◌, List, length}
use Rattle.limits.specs.Limits.{nodes_room}
use Rattle.state.specs.declared.Counts.{Counts}
use Rattle.state.specs.Form.{form_in, state_length, slots_most, nodes_most}
use Rattle.state.specs.Fields.{ticks_in, masks_in}
use Rattle.state.specs.Bytes.{state_of}
use Rattle.state.specs.Calls.{next_in}
use Rattle.storing.specs.Stores.{LaidCounts, ZeroFrom}
use Rattle.counting.specs.OpenedWith.{OpenedWith}

-- the state after the close
abbrev pub next_state : List ℕ → List ℕ
next_state s = state_of (form_in s) (masks_in s) (next_in s) (ticks_in s + 1)

-- the new layout is within the limits, and what stands in the second buffer ends at `used`
pub record NextAsk (s second : List ℕ) (used : ℕ) (c : Counts) (masks owner : List ℕ) (next-slots next-nodes : ℕ) (u tags : List ℕ) : Type 0 where
  pub known : OpenedWith s c owner
  pub counted : ticks_in s + 1 < 2 ^ 32
  pub long : length second ≡ state_length (form_in s)
  pub clean : ZeroFrom used second
  pub masks-are : masks ≡ masks_in s
  pub counts : LaidCounts (next_in s) next-slots next-nodes
  pub form-slots : next-slots ≤ slots_most (form_in s)
  pub form-nodes : next-nodes ≤ nodes_most (form_in s)
  pub u-long : length u ≡ nodes_room
  pub tags-long : length tags ≡ nodes_room
