use Rattle.std.proofs.Common.{arith}
use Rattle.choices.proofs.Reading.{put_row}
use Rattle.choices.proofs.rows.put_opened.Goals as goal

pub returns : goal.returns
returns c = let a = c.args in rw c.copy_from_slice.ensures.after (put_row a.at _ a.rows.now a.scores.counts (omega arith) c.requires (omega arith))
