use Rattle.rows.proofs.Written.{rows_none, rows_more}
use Rattle.tallying.proofs.RunTables.put_rows.Goals as goal

pub loop-r-init : goal.loop-r-init
loop-r-init c = rows_none _ _

pub loop-r-preserved : goal.loop-r-preserved
loop-r-preserved c = rows_more _ _ c.loop-r.invariant c.row_of-row.ensures c.put_row.ensures
