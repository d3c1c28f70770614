-- What the contracts on a state ask of its counts and slots, and what they tell. Assumes nothing: these are definitions.
use Rattle.std.specs.Prelude.{◌≡◌, ℕ, ◌+◌, ◌≤◌, List, length}
use Rattle.limits.specs.Limits.{boards_most}
use Rattle.state.specs.declared.Counts.{Counts}
use Rattle.state.specs.Form.{form_in, slots_most, nodes_most, slot_rows, slots_at, Formed}
use Rattle.state.specs.Fields.{boards_in, slots_in, nodes_in, nodes_from, start_in, length_in, stretch_end}

-- the counts are the header's, and the places are those that they give
pub record Header (s : List ℕ) (c : Counts) : Type 0 where
  pub boards-are : c.boards ≡ boards_in s
  pub slots-are : c.slots ≡ slots_in s
  pub nodes-are : c.nodes ≡ nodes_in s
  pub records-at : c.records ≡ slots_at (form_in s) (boards_in s)
  pub stretches-at : c.stretches ≡ nodes_from s

-- and in range, in a buffer of a state's length
pub record Sized (s : List ℕ) (c : Counts) : Type 0 where
  pub header : Header s c
  pub long : Formed s
  pub few-boards : c.boards ≤ boards_most
  pub few-slots : c.slots ≤ slots_most (form_in s)
  pub few-nodes : c.nodes ≤ nodes_most (form_in s)

-- where slot k's record is, by the counts
abbrev pub record_of : Counts → ℕ → ℕ
record_of c k = c.records + slot_rows k

-- slot k lies in its stretch, which ends with the nodes at the latest
pub record InStretch (s : List ℕ) (k : ℕ) : Type 0 where
  pub used : start_in s k + length_in s k ≤ stretch_end s k
  pub ends : stretch_end s k ≤ nodes_in s

-- slot k's nodes are the bytes from `from` up to `to`
pub record Spans (s : List ℕ) (k from to : ℕ) : Type 0 where
  pub from_is : from ≡ nodes_from s + start_in s k
  pub to_is : to ≡ from + length_in s k
  pub within : to ≤ length s
