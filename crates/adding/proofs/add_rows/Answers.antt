use mathlib.Core.Path.{ap₂, ◌∙◌}
use native.Mathlib.Omega.{arith}
use Rattle.reports.specs.Report.{added}
use Rattle.rows.proofs.Written.{rows_none, rows_more, row_next}
use Rattle.adding.proofs.Summing.{rows_fit}
use Rattle.adding.proofs.add_rows.Goals as goal

pub loop-r-init : goal.loop-r-init
loop-r-init c = record { summed = rows_none _ _; old-bytes = λ i. let k = c.type_inv.total i in omega arith }

pub plus-row-requires : goal.plus-row-requires
plus-row-requires c =
    rows_fit c.requires c.loop-r.invariant.old-bytes (λ i. let k = c.type_inv.night i in omega arith) c.loop-r.r c.loop-r-test.true
    (c.row_at.ensures ∙ row_next _ _ c.loop-r.r c.loop-r.invariant.summed) c.row_at-in-loop-r.ensures

pub loop-r-preserved : goal.loop-r-preserved
loop-r-preserved c =
    let k = c.loop-r.invariant in
    record {
      summed = rows_more _ _ k.summed (c.plus-row.ensures ∙ ap₂ added (c.row_at.ensures ∙ row_next _ _ c.loop-r.r k.summed) c.row_at-in-loop-r.ensures) c.put_row.ensures;
      old-bytes = k.old-bytes;
    }
