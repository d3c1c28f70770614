-- The product, and that it is small. Assumes nothing.
use mathlib.Core.Path.{refl}
use Prim.Native.Nat.{◌*◌, ◌≤◌}
use native.Mathlib.Omega.{arith}
use Rattle.state.specs.Form.{board_at}
use Rattle.state.proofs.Forms.{row-product}
use Rattle.state.proofs.Form.board_at.Goals as goal

pub overflow_mul-result : goal.overflow_mul-result
unfolding board_at
overflow_mul-result c =
    let small : c.board_row.result * c.args.i ≤ 64 * c.args.i = let e = c.board_row.ensures in rw e (row-product c.args.self c.args.i) in
    let l = c.requires in record { fits = omega arith }

pub overflow_add-result : goal.overflow_add-result
unfolding board_at
overflow_add-result c =
    let small : c.board_row.result * c.args.i ≤ 64 * c.args.i = let e = c.board_row.ensures in rw e (row-product c.args.self c.args.i) in
    let l = c.requires in record { fits = omega arith }

pub returns : goal.returns
unfolding board_at
returns c = let e = c.board_row.ensures in rw e refl
