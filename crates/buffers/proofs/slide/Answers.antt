use Rattle.std.proofs.Common.{arith}
use Rattle.buffers.proofs.Moves.{slid-more, slid-one}
use Rattle.buffers.proofs.slide.Goals as goal

pub loop-moved-preserved : goal.loop-moved-preserved
loop-moved-preserved c = slid-more c.move_eight.new.p 8 c.loop-moved.invariant (omega arith) c.move_eight.ensures

pub loop-i-preserved : goal.loop-i-preserved
loop-i-preserved c = slid-one c.loop-i.invariant c.loop-i-test.true
