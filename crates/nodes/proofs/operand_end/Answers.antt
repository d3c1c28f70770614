use Prim.Native.Nat.{◌+◌, ◌-◌, ◌≤◌}
use native.Mathlib.Omega.{arith}
use lib.ListN.{length}
use Rattle.nodes.proofs.Ends.{Ending, ending-begins, ending-few, ending-more, ending-done}
use Rattle.nodes.proofs.operand_end.Goals as goal

pub loop-owed-init : goal.loop-owed-init
loop-owed-init c = ending-begins

pub bounds-s-i : goal.bounds-s-i
bounds-s-i c =
    let inside : c.loop-owed.i + c.loop-owed.owed ≤ length c.args.s.now = ending-few c.loop-owed.invariant c.requires in
    let n = inside in let h = c.loop-owed-test.true in omega arith

pub overflow_add-owed : goal.overflow_add-owed
overflow_add-owed c =
    let inside : c.loop-owed.i + c.loop-owed.owed ≤ length c.args.s.now = ending-few c.loop-owed.invariant c.requires in
    let again : let l = c.loop-owed in Ending c.args.s.now (l.i + 1) (l.owed - 1 + c.operands.result) = let n = inside in let h = c.loop-owed-test.true in ending-more c.loop-owed.invariant (omega arith) (omega arith) c.from.ensures c.operands.ensures in
    let n = ending-few (again) c.requires in omega arith

pub overflow_add-i : goal.overflow_add-i
overflow_add-i c =
    let inside : c.loop-owed.i + c.loop-owed.owed ≤ length c.args.s.now = ending-few c.loop-owed.invariant c.requires in
    let n = inside in omega arith

pub loop-owed-smaller : goal.loop-owed-smaller
loop-owed-smaller c =
    let inside : c.loop-owed.i + c.loop-owed.owed ≤ length c.args.s.now = ending-few c.loop-owed.invariant c.requires in
    let n = inside in let h = c.loop-owed-test.true in omega arith

pub loop-owed-preserved : goal.loop-owed-preserved
loop-owed-preserved c =
    let inside : c.loop-owed.i + c.loop-owed.owed ≤ length c.args.s.now = ending-few c.loop-owed.invariant c.requires in
    let again : let l = c.loop-owed in Ending c.args.s.now (l.i + 1) (l.owed - 1 + c.operands.result) = let n = inside in let h = c.loop-owed-test.true in ending-more c.loop-owed.invariant (omega arith) (omega arith) c.from.ensures c.operands.ensures in
    again

pub returns : goal.returns
returns c = ending-done c.loop-owed.invariant c.loop-owed-test.false
