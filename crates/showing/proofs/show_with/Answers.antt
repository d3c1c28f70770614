use native.Mathlib.Omega.{arith}
use Rattle.showing.proofs.Turns.{turn-start, turn-asks, turn_more, turn-done}
use Rattle.showing.proofs.show_with.Goals as goal

pub loop-b-init : goal.loop-b-init
loop-b-init c = λ a. turn-start a

pub show_node-pen-requires : goal.show_node-pen-requires
show_node-pen-requires c = let a = c.requires in turn-asks a (c.loop-b.invariant a) c.loop-b-test.true c.from.ensures

pub loop-b-preserved : goal.loop-b-preserved
loop-b-preserved c = λ a. turn_more a (c.loop-b.invariant a) c.loop-b-test.true c.from.ensures c.show_node-pen.ensures

pub returns : goal.returns
returns c = let a = c.requires in turn-done a (c.loop-b.invariant a) (omega arith) c.loop-b-test.false
