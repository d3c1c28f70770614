-- Each table has one number written, the run's own (`counted-as`). No loop. Assumes nothing.
use native.Mathlib.Omega.{arith}
use Rattle.tallying.proofs.Counting.{Long, counted-as}
use Rattle.tallying.proofs.RunTables.count_run.Goals as goal

pub returns : goal.returns
returns c =
    λ xs held. let p = c.requires in
    let long : Long c.args.self.now = record { counts = omega arith; earliest = omega arith; latest = omega arith; sums = omega arith } in
    counted-as long held c.args.tick p.rule-few p.verdict-few p.place_is (omega arith) (omega arith)
    c.if_false-low.ensures c.if_false-high.ensures c.min.ensures c.max.ensures c.from.ensures
