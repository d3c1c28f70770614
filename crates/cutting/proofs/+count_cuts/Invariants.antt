-- Each part that is walked over in turn is shorter.
use Rattle.std.proofs.Common.{length}
use Rattle.cutting.proofs.+count_cuts.Given as goal

abbrev pub decreases-count_cuts : goal.decreases-count_cuts
decreases-count_cuts l = length l.s.now
