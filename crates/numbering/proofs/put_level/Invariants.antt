-- At each turn those of the level that were looked at stand behind the ones placed before. Assumes nothing.
use Rattle.numbering.proofs.Placing.{Leveling}
use Rattle.numbering.proofs.put_level.Given as goal

abbrev pub invariant-loop-k : goal.invariant-loop-k
invariant-loop-k l = Leveling l.level l.met l.chain l.initial.order l.placed l.order l.w l.k-index
