-- The row as it stands is the row unfolded. Assumes nothing.
use Rattle.choices.proofs.Made.{next_fits, next-made}
use Rattle.choices.proofs.over.over_next.Goals as goal

pub mark_of-requires : goal.mark_of-requires
mark_of-requires c = next_fits c.requires c.length_of.ensures.0 c.again_of-again.ensures.0

pub returns : goal.returns
returns c = next-made c.requires c.raw_at-scores.ensures c.put_opened.ensures c.length_of.ensures.0 c.again_of-again.ensures.0 c.mark_of.ensures
