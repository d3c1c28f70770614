-- Both rows added; no sum is large, since no count is. Assumes nothing.
use Rattle.choices.proofs.Made.{choice-fits, again-fits, length-fits, ever-sums, ever-few, ever-made}
use native.Mathlib.Omega.{arith}
use Rattle.choices.proofs.over.over_ever.Goals as goal

pub plus-sums-requires : goal.plus-sums-requires
plus-sums-requires c = ever-sums c.before.requires c.raw_at-scores.ensures c.opened_at-first.ensures

pub together-requires : goal.together-requires
together-requires c = (choice-fits _ c.choice_of.ensures.0, again-fits _ c.again_of-again.ensures.0, ever-few c.requires c.raw_at-scores.ensures c.opened_at-first.ensures c.plus-sums.ensures)

pub mark_of-requires : goal.mark_of-requires
mark_of-requires c = (length-fits c.requires c.length_of.ensures.0, c.together.ensures.0, omega arith, again-fits _ c.again_of-again.ensures.0)

pub returns : goal.returns
returns c = ever-made c.requires c.raw_at-scores.ensures c.opened_at-first.ensures c.plus-sums.ensures c.put_opened.ensures c.length_of.ensures.0 c.again_of-again.ensures.0 c.choice_of.ensures.0 c.together.ensures c.mark_of.ensures
