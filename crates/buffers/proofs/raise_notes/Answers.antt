use Rattle.buffers.proofs.Moves.{raised-one}
use Rattle.buffers.proofs.raise_notes.Goals as goal

pub loop-i-preserved : goal.loop-i-preserved
loop-i-preserved c = raised-one c.loop-i.invariant c.loop-i-test.true
