-- One occurrence, put on top of both stacks. Assumes nothing.
use Rattle.choices.proofs.Made.{one-raw, none_made}
use Rattle.choices.proofs.over.over_none.Goals as goal

pub put_raw-requires : goal.put_raw-requires
put_raw-requires c = (c.requires.1, one-raw c.args.owner c.one-scores.ensures)

pub returns : goal.returns
returns c = none_made c.one-scores.ensures c.put_raw.ensures c.put_opened.ensures c.mark_of.ensures
