-- One slot carried over: unfolded and tagged at the front of some bytes. Assumes nothing: these are definitions.
use Rattle.std.specs.Prelude.{◌≡◌, ℕ, ◌<◌, ◌≤◌, List, ◌++◌, length, get_or, take, drop}
use Rattle.state.specs.declared.Counts.{Counts}
use Rattle.limits.specs.Limits.{nodes_room}
use Rattle.ltl.specs.Formula.{Formula, size, encode}
use Rattle.ltl.specs.Progression.{unfolded}
use Rattle.network.specs.Scores.{chosen}
use Rattle.state.specs.Fields.{masks_in, board_of_in}
use Rattle.state.specs.Bytes.{formula_at}
use Rattle.counting.specs.OpenedWith.{OpenedWith}
use Rattle.tagging.specs.Packed.{board_in, here_in}
use Rattle.tagging.specs.Tags.{here_on, Tagged}

-- slot m unfolded
abbrev pub unfolded_at : List ℕ → ℕ → Formula
unfolded_at s m = unfolded (formula_at s m)

-- slot m stands unfolded at the front of some bytes, tagged on its board
pub record SlotStands (s u tags : List ℕ) (m : ℕ) : Type 0 where
  pub bytes : take (size (unfolded_at s m)) u ≡ encode (unfolded_at s m)
  pub board-is : board_in (get_or tags 0 0) ≡ board_of_in s m
  pub here-is : here_in (get_or tags 0 0) ≡ here_on (chosen (masks_in s)) (unfolded_at s m) (board_of_in s m)
  pub tagged : Tagged (chosen (masks_in s)) (unfolded_at s m) tags

pub record PutSlotAsk (s : List ℕ) (c : Counts) (m : ℕ) (owner u tags : List ℕ) : Type 0 where
  pub known : OpenedWith s c owner
  pub there : m < c.slots
  pub room : size (unfolded_at s m) ≤ length u
  pub few : size (unfolded_at s m) ≤ nodes_room
  pub long : length u ≤ length tags

pub record PutsSlot (s : List ℕ) (m : ℕ) (u u' tags' : List ℕ) (n : ℕ) : Type 0 where
  pub writes : n ≡ size (unfolded_at s m)
  pub leaves : u' ≡ encode (unfolded_at s m) ++ drop (size (unfolded_at s m)) u
  pub stands : SlotStands s u' tags' m
