use native.Mathlib.Omega.{arith}
use Rattle.adding.proofs.Looking.{looked-none, look-more}
use Rattle.adding.proofs.look_over.Goals as goal

pub loop-r-init : goal.loop-r-init
loop-r-init c = looked-none _

pub loop-r-preserved : goal.loop-r-preserved
loop-r-preserved c =
    let e = c.from-runs.ensures in
    look-more c.loop-r.invariant c.loop-r-test.true c.row_at-row.ensures e (omega arith) c.agrees-agrees.ensures
