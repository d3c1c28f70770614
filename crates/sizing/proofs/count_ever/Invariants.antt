-- The sum is kept from each eventually or always to its operand, which ends at the same place. Assumes nothing.
use Prim.Native.Nat.{◌+◌, ◌-◌, ◌*◌, ◌≤◌}
use lib.ListN.{length}
use Rattle.limits.specs.Limits.{nodes_room}
use Rattle.sizing.specs.Sums.{SumsPart}
use Rattle.sizing.proofs.count_ever.Given as goal

abbrev pub invariant-loop-count : goal.invariant-loop-count
invariant-loop-count l = SumsPart l.s l.i l.end l.count × (l.from ≤ l.i) × (l.count ≤ nodes_room + (nodes_room + 1) * l.i)

abbrev pub decreases-loop-count : goal.decreases-loop-count
decreases-loop-count l = length l.s - l.i
