-- After b turns the first b counts are stored (`alone_to`), and those behind are still 0. Assumes nothing.
use mathlib.Core.Path.{◌≡◌}
use Rattle.scores.proofs.Alone.{alone_to}
use Rattle.scores.proofs.Scores.one.Given as goal

abbrev pub invariant-loop-b : goal.invariant-loop-b
invariant-loop-b l = (l.counts ≡ alone_to l.own l.b)
