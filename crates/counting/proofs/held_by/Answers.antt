use Rattle.counting.proofs.Adding.{added_none, added_more, added-all}
use Rattle.counting.proofs.held_by.Goals as goal

pub loop-b-init : goal.loop-b-init
loop-b-init c = added_none

pub after-t-requires : goal.after-t-requires
after-t-requires c = let a = c.requires in let k = c.loop-b in (a.0, a.1 k.b-index, k.invariant.few-slots, k.invariant.few-nodes)

pub loop-b-preserved : goal.loop-b-preserved
loop-b-preserved c = added_more c.loop-b.invariant c.loop-b-test.true c.after-t.ensures

pub returns : goal.returns
returns c = added-all c.loop-b.invariant c.loop-b-test.false
