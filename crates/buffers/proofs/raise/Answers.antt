use Rattle.std.proofs.Common.{arith}
use Rattle.buffers.proofs.Moves.{raised-more, raised-one}
use Rattle.buffers.proofs.raise.Goals as goal

pub loop-left-preserved : goal.loop-left-preserved
loop-left-preserved c = raised-more c.move_eight.new.p 8 c.loop-left.invariant (omega arith) c.move_eight.ensures

pub loop-i-preserved : goal.loop-i-preserved
loop-i-preserved c = raised-one c.loop-i.invariant c.loop-i-test.true
