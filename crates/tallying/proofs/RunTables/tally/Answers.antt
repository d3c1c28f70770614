use mathlib.Core.Path.{refl}
use native.Mathlib.Omega.{arith}
use Rattle.tallying.proofs.Turning.{place-stops, part-stops, run-asks, turn_more, all_done}
use Rattle.tallying.proofs.RunTables.tally.Goals as goal

pub returns-then-place-ge-COUNTS_ROOM : goal.returns-then-place-ge-COUNTS_ROOM
returns-then-place-ge-COUNTS_ROOM c =
    place-stops c.loop-i.invariant c.loop-i-test.true c.u32_at-rule.ensures c.u32_at-verdict.ensures c.if-place-ge-COUNTS_ROOM.true

pub returns-then-place-verdict : goal.returns-then-place-verdict
returns-then-place-verdict c =
    part-stops c.loop-i.invariant c.loop-i-test.true c.u32_at-rule.ensures c.u32_at-verdict.ensures c.if-place-verdict.true

pub count_run-requires : goal.count_run-requires
count_run-requires c =
    run-asks c.loop-i.invariant c.loop-i-test.true c.u32_at-rule.ensures c.u32_at-verdict.ensures (omega arith) (omega arith) c.requires.runs-few

pub loop-i-preserved : goal.loop-i-preserved
loop-i-preserved c =
    turn_more c.loop-i.invariant c.loop-i-test.true c.u32_at-rule.ensures c.u32_at-verdict.ensures (omega arith) (omega arith) c.u32_at-tick.ensures c.count_run.ensures

pub returns : goal.returns
returns c = all_done c.loop-i.invariant refl (omega arith)
