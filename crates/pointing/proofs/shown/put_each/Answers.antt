-- One byte more. Assumes nothing.
use Rattle.pointing.proofs.Columns.{changed-more}
use Rattle.pointing.proofs.shown.put_each.Goals as goal

pub loop-c-preserved : goal.loop-c-preserved
loop-c-preserved g c = changed-more (goal.F-post g c.args.of) _ _ _ _ _ _ c.loop-c-test.true c.of.ensures c.put.ensures c.loop-c.invariant
