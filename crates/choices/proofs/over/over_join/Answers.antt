-- Both operands added; no sum is large, since no count is. A choice has room, whichever it is. Assumes nothing.
use Rattle.choices.proofs.Made.{join-sums, join-few, join-made}
use native.Mathlib.Omega.{arith}
use Rattle.choices.proofs.over.over_join.Goals as goal

pub plus-sums-requires : goal.plus-sums-requires
plus-sums-requires c = join-sums c.before.before.requires c.opened_at-left.ensures c.opened_at-right.ensures

pub together-requires : goal.together-requires
together-requires c = let p = c.requires in (omega arith, omega arith, join-few c.requires c.opened_at-left.ensures c.opened_at-right.ensures c.plus-sums.ensures)

pub returns : goal.returns
returns c = join-made c.requires c.opened_at-left.ensures c.opened_at-right.ensures c.plus-sums.ensures c.put_opened.ensures c.together.ensures c.mark_of.ensures
