-- At each turn the root and the slots of the place holders so far stand in what is spread out. Assumes nothing.
use Prim.Native.Nat.{◌-◌}
use Rattle.limits.specs.Limits.{nodes_room}
use Rattle.spreading.proofs.Turns.{Turn}
use Rattle.spreading.proofs.spread.Given as goal

abbrev pub invariant-loop-i : goal.invariant-loop-i
invariant-loop-i l = Turn l.state l.u l.tags l.i l.end

abbrev pub decreases-loop-i : goal.decreases-loop-i
decreases-loop-i l = nodes_room - l.i
