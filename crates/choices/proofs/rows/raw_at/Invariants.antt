-- After b turns the first b counts are those of the row. Assumes nothing.
use Rattle.std.proofs.Common.{◌≡◌, length, take, drop}
use Rattle.limits.specs.Limits.{boards_most}
use Rattle.choices.proofs.rows.raw_at.Given as goal

abbrev pub invariant-loop-b : goal.invariant-loop-b
invariant-loop-b l = (length l.counts ≡ boards_most) × (take l.b l.counts ≡ take l.b (drop l.at l.rows))
