use Rattle.std.proofs.Common.{◌+◌, ◌-◌, arith}
use Rattle.le.proofs.Laws.{number-room, number-grows, le_at-none, le_at-turn}
use Rattle.le.proofs.number_at.Goals as goal

pub loop-i-init : goal.loop-i-init
loop-i-init c = le_at-none c.args.s.now (c.args.at + c.args.w) (c.args.w - c.args.w) (omega arith)

pub overflow_mul-v : goal.overflow_mul-v
overflow_mul-v c = omega (arith, number-room (c.args.w - c.loop-i.i) c.loop-i.v 0 (omega arith) c.loop-i.invariant.1 (omega arith))

pub overflow_add-v : goal.overflow_add-v
overflow_add-v c = omega (arith, number-room (c.args.w - c.loop-i.i) c.loop-i.v c.from.result (omega arith) c.loop-i.invariant.1 (omega arith))

pub loop-i-preserved : goal.loop-i-preserved
loop-i-preserved c =
    let k = c.loop-i.invariant in
    (le_at-turn _ _ _ _ _ _ c.loop-i-test.true (omega arith) k.0 c.from.ensures, number-grows _ _ _ _ c.loop-i-test.true (omega arith) k.1 (omega arith))
