-- The operands owed end where the formula ends; the bytes left fall. Assumes nothing.
use Prim.Native.Nat.{◌-◌}
use lib.ListN.{length}
use Rattle.nodes.proofs.Ends.{Ending}
use Rattle.nodes.proofs.operand_end.Given as goal

abbrev pub invariant-loop-owed : goal.invariant-loop-owed
invariant-loop-owed l = Ending l.s l.i l.owed

abbrev pub decreases-loop-owed : goal.decreases-loop-owed
decreases-loop-owed l = length l.s - l.i
