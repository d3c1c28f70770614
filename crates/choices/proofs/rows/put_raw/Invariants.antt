-- After b turns the first b counts stand in the row, and what is behind the row is as it was. Assumes nothing.
use Rattle.std.proofs.Common.{◌≡◌, ◌+◌, take, drop}
use Rattle.limits.specs.Limits.{boards_most}
use Rattle.choices.proofs.rows.put_raw.Given as goal

abbrev pub invariant-loop-b : goal.invariant-loop-b
invariant-loop-b l = (take l.b (drop l.at l.rows) ≡ take l.b l.count-items) × (drop (l.at + boards_most) l.rows ≡ drop (l.at + boards_most) l.initial.rows)
