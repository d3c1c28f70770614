-- The sum is kept from place to place, and at the end it is the count. Assumes nothing.
use Prim.Native.Nat.{◌-◌, ◌≤◌}
use lib.ListN.{length}
use Rattle.limits.specs.Limits.{nodes_room}
use Rattle.sizing.specs.Sums.{Sums}
use Rattle.sizing.proofs.count_unfolded.Given as goal

abbrev pub invariant-loop-i : goal.invariant-loop-i
invariant-loop-i l = Sums l.s l.i l.count × (l.count ≤ nodes_room)

abbrev pub decreases-loop-i : goal.decreases-loop-i
decreases-loop-i l = length l.s - l.i
