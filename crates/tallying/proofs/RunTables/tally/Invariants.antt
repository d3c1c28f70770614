-- The first i runs are known and counted (`TalliedTo`). A run that is not known ends the loop with its place. Assumes nothing.
use Rattle.tallying.proofs.Turning.{TalliedTo}
use Rattle.tallying.proofs.RunTables.tally.Given as goal

abbrev pub invariant-loop-i : goal.invariant-loop-i
invariant-loop-i l = TalliedTo l.runs l.self l.i
