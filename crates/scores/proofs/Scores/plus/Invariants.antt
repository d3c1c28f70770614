-- After b turns the first b counts are added (`added_to`), and those behind are as they were, so that no sum wraps. Assumes nothing.
use mathlib.Core.Path.{◌≡◌}
use lib.ListN.{length}
use Rattle.limits.specs.Limits.{boards_most}
use Rattle.scores.proofs.Added.{added_to}
use Rattle.scores.proofs.Scores.plus.Given as goal

abbrev pub invariant-loop-b : goal.invariant-loop-b
invariant-loop-b l = (length l.initial.sums ≡ boards_most) × (length l.more ≡ boards_most) × (l.sums ≡ added_to l.b l.initial.sums l.more)
