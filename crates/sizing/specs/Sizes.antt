-- What counting the nodes that a formula unfolds to asks and gives. Assumes nothing: these are definitions.
use Rattle.std.specs.Prelude.{◌≡◌, List, [], ℕ, ◌+◌, ◌≤◌, min, length}
use Rattle.limits.specs.Limits.{nodes_room}
use Rattle.ltl.specs.Formula.{Formula, size}
use Rattle.ltl.specs.Progression.{unfolded}
use Rattle.nodes.specs.Begins.{Front}

-- the bytes are one formula, and not too many
pub record SizeAsk (s : List ℕ) : Type 0 where
  pub formula : Formula
  pub front : Front s formula []
  pub few : length s ≤ nodes_room

-- the unfolded nodes of the formula were counted up to one more than the most
abbrev pub CountsUnfolded : List ℕ → ℕ → Type 0
CountsUnfolded s count = (f : Formula) → Front s f [] → count ≡ min (size (unfolded f)) (nodes_room + 1)
