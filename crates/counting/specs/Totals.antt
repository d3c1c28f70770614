-- How many slots and nodes a network has, counted up to its limits. Assumes nothing: these are definitions.
use Rattle.std.specs.Prelude.{◌≡◌, ℕ, ◌+◌, min, List, length}
use Rattle.limits.specs.Limits.{nodes_room, slots_room}
use Rattle.network.specs.Layout.{Slot}
use Rattle.state.specs.Bytes.{nodes_of}
use Rattle.counting.specs.declared.Totals.{Totals}

-- a count, where what is over the limit counts as one more than it
abbrev pub capped : ℕ → ℕ → ℕ
capped most n = min n (most + 1)

-- the counts are the network's
pub record Totalled (network : List Slot) (r : Totals) : Type 0 where
  pub slots-are : r.slots ≡ capped slots_room (length network)
  pub nodes-are : r.nodes ≡ capped nodes_room (nodes_of network)
