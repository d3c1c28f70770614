-- What was counted, and what is left, is all. Assumes nothing.
use Rattle.std.proofs.Common.{◌≡◌, ◌+◌, ◌≤◌, drop}
use Rattle.building.specs.Nodes.{nodes_in}
use Rattle.building.proofs.count_nodes.Given as goal

abbrev pub invariant-loop-b : goal.invariant-loop-b
invariant-loop-b l = (l.n ≤ l.b-index) × (l.n + nodes_in (drop l.b-index l.text) ≡ nodes_in l.text)
