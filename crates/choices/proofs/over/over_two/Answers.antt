-- Both operands as they stand are added, and then by the operator. A choice has room, whichever mark it is from. Assumes nothing.
use Rattle.choices.proofs.Made.{choice-fits, again-fits, two-sums, two-raw, two-few, two-pair, two-copy, two-join, two-until}
use Rattle.choices.proofs.over.over_two.Goals as goal

pub plus-sums-requires : goal.plus-sums-requires
plus-sums-requires c = two-sums c.requires c.raw_at-left.ensures c.raw_at-right.ensures

pub put_raw-requires : goal.put_raw-requires
put_raw-requires c = (c.requires.raw-fits, two-raw c.requires c.raw_at-left.ensures c.raw_at-right.ensures c.plus-sums.ensures)

pub together-again-requires : goal.together-again-requires
together-again-requires c = (again-fits _ c.again_of.ensures.0, again-fits _ c.again_of-2.ensures.0, two-few c.requires c.raw_at-left.ensures c.raw_at-right.ensures c.plus-sums.ensures)

pub over_join-requires : goal.over_join-requires
over_join-requires c = two-pair c.requires c.raw_at-left.ensures c.raw_at-right.ensures c.plus-sums.ensures c.length_of.ensures.0 c.length_of-2.ensures.0 (choice-fits _ c.choice_of.ensures.0) (choice-fits _ c.choice_of-in-Joined.ensures.0) c.together-again.ensures.0

pub over_until-requires : goal.over_until-requires
over_until-requires c = two-copy c.requires c.raw_at-left.ensures c.raw_at-right.ensures c.plus-sums.ensures c.length_of.ensures.0 c.length_of-2.ensures.0 (choice-fits _ c.choice_of-in-Until.ensures.0) (choice-fits _ c.choice_of-in-Until-2.ensures.0) c.together-again.ensures.0

pub returns-in-Joined : goal.returns-in-Joined
returns-in-Joined c = two-join c.requires c.raw_at-left.ensures c.raw_at-right.ensures c.plus-sums.ensures c.length_of.ensures.0 c.length_of-2.ensures.0 c.choice_of.ensures.0 c.choice_of-in-Joined.ensures.0 c.again_of.ensures.0 c.again_of-2.ensures.0 c.together-again.ensures c.put_raw.ensures c.in-Joined.is c.over_join.ensures

pub returns-in-Until : goal.returns-in-Until
returns-in-Until c = two-until c.requires c.raw_at-left.ensures c.raw_at-right.ensures c.plus-sums.ensures c.length_of.ensures.0 c.length_of-2.ensures.0 c.choice_of-in-Until.ensures.0 c.choice_of-in-Until-2.ensures.0 c.again_of.ensures.0 c.again_of-2.ensures.0 c.together-again.ensures c.put_raw.ensures c.in-Until.is c.over_until.ensures
