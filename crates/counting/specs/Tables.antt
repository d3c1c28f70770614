-- What one slot counts, by two tables of what the slots count that it holds. Assumes nothing: these are definitions.
use Rattle.std.specs.Prelude.{◌≡◌, ℕ, ◌+◌, ◌<◌, ◌≤◌, List, [], length}
use Rattle.limits.specs.Limits.{boards_most, nodes_room, slots_room}
use Rattle.ltl.specs.Formula.{Formula, size, encode, Within}
use Rattle.ltl.specs.Progression.{unfolded}
use Rattle.network.specs.Scores.{chosen}
use Rattle.nodes.specs.Begins.{Front}
use Rattle.scores.specs.Owned.{Table, Owned}
use Rattle.cutting.specs.Cuts.{cuts_on}
use Rattle.checked.specs.Holds.{Holds}
use Rattle.counting.specs.declared.Totals.{Totals}
use Rattle.counting.specs.Totals.{capped}
use Rattle.counting.specs.Held.{held_over, entry_in}

-- a table of slots and one of nodes, with an entry for each slot that there may be
pub record Tables (slots nodes : List ℕ) : Type 0 where
  pub slots-long : length slots ≡ slots_room
  pub nodes-long : length nodes ≡ slots_room

-- the counts are what the bytes add
pub record HeldBy (slots nodes p : List ℕ) (r : Totals) : Type 0 where
  pub slots-are : r.slots ≡ capped slots_room (held_over (entry_in slots) p)
  pub nodes-are : r.nodes ≡ capped nodes_room (held_over (entry_in nodes) p)

-- the bytes of a slot on a board that is there
pub record FormulaAsk (p : List ℕ) (board : ℕ) (owner slots nodes : List ℕ) : Type 0 where
  pub formula : Formula
  pub front : Front p formula []
  pub few : length p ≤ nodes_room
  pub holds : Holds slots_room p
  pub there : board < boards_most
  pub table : Table owner
  pub tables : Tables slots nodes

-- a slot counts itself and its cuts, and the nodes of its unfolded formula with one more for each cut; and what it holds
pub record CountedOn (masks slots nodes : List ℕ) (f : Formula) (board : ℕ) (r : Totals) : Type 0 where
  pub slots-are : r.slots ≡ capped slots_room (1 + cuts_on (chosen masks) (unfolded f) board + held_over (entry_in slots) (encode f))
  pub nodes-are : r.nodes ≡ capped nodes_room (cuts_on (chosen masks) (unfolded f) board + size (unfolded f) + held_over (entry_in nodes) (encode f))

-- the same of the formula that the bytes are, by whatever masks the table of owners belongs to
abbrev pub CountsOn : List ℕ → ℕ → List ℕ → List ℕ → List ℕ → Totals → Type 0
CountsOn p board owner slots nodes r =
    (f : Formula) → Front p f [] → (n end : ℕ) (masks : List ℕ) → Owned n masks owner → Within n end f → CountedOn masks slots nodes f board r
