use Rattle.numbering.proofs.Placing.{counting-start, counting-room, counting_more, counting-done}
use Rattle.std.proofs.Common.{arith}
use Rattle.numbering.proofs.put_numbers.Goals as goal

pub loop-i-init : goal.loop-i-init
loop-i-init c = counting-start _ _

pub bounds-numbers-order : goal.bounds-numbers-order
bounds-numbers-order c = counting-room c.loop-i.invariant c.loop-i-test.true c.requires.1

pub loop-i-preserved : goal.loop-i-preserved
loop-i-preserved c = let l = c.loop-i-test.true in counting_more c.loop-i.invariant l (omega arith) (counting-room c.loop-i.invariant l c.requires.1)

pub returns : goal.returns
returns c = counting-done c.loop-i.invariant (omega arith)
