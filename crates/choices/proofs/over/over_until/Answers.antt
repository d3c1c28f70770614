-- The left operand and the copy, and the right operand with both. A choice has room, whichever it is. Assumes nothing.
use Rattle.choices.proofs.Made.{until-laters, until-later-few, until-sums, until-few, until-made}
use native.Mathlib.Omega.{arith}
use Rattle.choices.proofs.over.over_until.Goals as goal

pub plus-laters-requires : goal.plus-laters-requires
plus-laters-requires c = until-laters c.before.requires c.opened_at-left.ensures

pub together-later-requires : goal.together-later-requires
together-later-requires c = let p = c.before.requires.pair in (omega arith, omega arith, until-later-few c.before.requires c.opened_at-left.ensures c.plus-laters.ensures)

pub plus-sums-requires : goal.plus-sums-requires
plus-sums-requires c = until-sums c.requires c.opened_at-left.ensures c.plus-laters.ensures c.opened_at-right.ensures

pub together-requires : goal.together-requires
together-requires c = let p = c.requires.pair in (omega arith, c.together-later.ensures.0, until-few c.requires c.opened_at-left.ensures c.plus-laters.ensures c.opened_at-right.ensures c.plus-sums.ensures)

pub returns : goal.returns
returns c = until-made c.requires c.opened_at-left.ensures c.plus-laters.ensures c.opened_at-right.ensures c.plus-sums.ensures c.put_opened.ensures c.together-later.ensures c.together.ensures c.mark_of.ensures
