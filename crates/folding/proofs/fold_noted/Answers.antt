use native.Mathlib.Omega.{arith}
use Rattle.folding.proofs.Passes.{turn-ask, turn-done, folded_start, end-there, end-room, folded-end}
use Rattle.folding.proofs.fold_noted.Goals as goal

pub loop-i-init : goal.loop-i-init
loop-i-init c = (c.requires.of.formula, folded_start c.requires)

pub fold_node-low-requires : goal.fold_node-low-requires
fold_node-low-requires c = turn-ask c.loop-i.invariant.1 c.loop-i-test.true

pub loop-i-preserved : goal.loop-i-preserved
loop-i-preserved c = let x = c.fold_node-low in (c.loop-i.invariant.0, turn-done c.loop-i.invariant.1 c.loop-i-test.true x.ensures x.auto.p x.auto.notes)

pub bounds-notes-low : goal.bounds-notes-low
bounds-notes-low c = end-there c.loop-i.invariant.1 (omega arith)

pub put_constant-requires : goal.put_constant-requires
put_constant-requires c = end-room c.loop-i.invariant.1 (omega arith)

pub returns : goal.returns
returns c = record { means = folded-end c.loop-i.invariant.1 (omega arith) c.put_constant.ensures c.put_constant.auto.p }
