-- Seven puts, each behind the last (`row_put`). No loop. Assumes nothing.
use native.Mathlib.Omega.{arith}
use Rattle.rows.proofs.Fields.{row_put}
use Rattle.rows.proofs.put_row.Goals as goal

pub returns : goal.returns
returns c =
    let a = c.args in
    let room = c.requires in
    row_put a.s.now a.at a.row (omega arith)
    c.put_u32.ensures c.put_u32-2.ensures c.put_u32-3.ensures c.put_u32-4.ensures
    c.put_u32-5.ensures c.put_u32-6.ensures c.put_u64.ensures
