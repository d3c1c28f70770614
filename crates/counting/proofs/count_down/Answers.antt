use Rattle.counting.proofs.Filling.{known-few, filled_more, filled-all}
use native.Mathlib.Omega.{arith}
use Rattle.counting.proofs.count_down.Goals as goal

pub bounds-slots-k : goal.bounds-slots-k
bounds-slots-k c = let few = known-few c.requires.0 in let x = c.loop-k.invariant.tables in omega arith

pub bounds-nodes-k : goal.bounds-nodes-k
bounds-nodes-k c = let few = known-few c.requires.0 in let x = c.loop-k.invariant.tables in omega arith

pub loop-k-preserved : goal.loop-k-preserved
loop-k-preserved c =
    let o = c.requires.0.opened in let e = o.header.slots-are in
    filled_more o.passes c.loop-k.invariant (omega arith) (omega arith) c.count_slot-t.ensures

pub returns : goal.returns
returns c = filled-all c.requires.0.opened.passes c.loop-k.invariant c.loop-k-test.false
