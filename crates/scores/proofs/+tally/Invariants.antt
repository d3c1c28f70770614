-- Each part that is read in turn is shorter.
use Rattle.std.proofs.Common.{length}
use Rattle.scores.proofs.+tally.Given as goal

abbrev pub decreases-tally : goal.decreases-tally
decreases-tally l = length l.s.now
