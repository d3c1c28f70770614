use Rattle.std.proofs.Common.{arith}
use Rattle.choices.proofs.Passes.{turn-ask, turn-done, marked_start, marked-end}
use Rattle.choices.proofs.mark_all.Goals as goal

pub loop-i-init : goal.loop-i-init
loop-i-init c = (c.requires.formula, marked_start c.requires)

pub mark_node-t-requires : goal.mark_node-t-requires
mark_node-t-requires c = let d = c.loop-i.auto in turn-ask c.loop-i.invariant.1 c.loop-i-test.true c.requires d.marks d.raw d.opened

pub loop-i-preserved : goal.loop-i-preserved
loop-i-preserved c = let b = c.requires.beside in (c.loop-i.invariant.0, turn-done c.loop-i.invariant.1 c.loop-i-test.true (omega arith) c.mark_node-t.ensures)

pub returns : goal.returns
returns c = marked-end c.loop-i.invariant.1 (omega arith)
