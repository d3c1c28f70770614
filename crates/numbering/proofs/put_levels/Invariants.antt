-- At each turn the levels so far are placed. Assumes nothing.
use Prim.Native.Nat.{◌+◌, ◌-◌}
use Rattle.numbering.proofs.Placing.{Placing}
use Rattle.numbering.proofs.put_levels.Given as goal

abbrev pub invariant-loop-placed : goal.invariant-loop-placed
invariant-loop-placed l = Placing l.n l.met l.chain l.initial.order l.order l.placed l.level

abbrev pub decreases-loop-placed : goal.decreases-loop-placed
decreases-loop-placed l = l.n + 1 - l.level
