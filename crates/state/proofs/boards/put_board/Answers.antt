-- A mask, and zeros to the row's end, which is behind the mask. Assumes nothing.
use mathlib.Core.Path.{ap}
use Prim.Native.Nat.{◌-◌, ◌≤◌}
use native.Mathlib.Omega.{arith}
use Rattle.state.proofs.Forms.{row_room}
use Rattle.state.proofs.Putting.{board-put}
use Rattle.state.proofs.boards.put_board.Goals as goal

pub put_u64-requires : goal.put_u64-requires
put_u64-requires c =
    let room : 17 ≤ c.board_row-end.result = let r = row_room c.args.form in let e = c.board_row-end.ensures in omega arith in
    let e = c.board_row-end.ensures in let p = c.requires in omega arith

pub slice_bounds-clear-count : goal.slice_bounds-clear-count
slice_bounds-clear-count c =
    let room : 17 ≤ c.board_row-end.result = let r = row_room c.args.form in let e = c.board_row-end.ensures in omega arith in
    omega arith

pub slice_bounds-clear-start : goal.slice_bounds-clear-start
slice_bounds-clear-start c =
    let room : 17 ≤ c.board_row-end.result = let r = row_room c.args.form in let e = c.board_row-end.ensures in omega arith in
    omega arith

pub slice_bounds-clear-end : goal.slice_bounds-clear-end
slice_bounds-clear-end c =
    let room : 17 ≤ c.board_row-end.result = let r = row_room c.args.form in let e = c.board_row-end.ensures in omega arith in
    let e = c.board_row-end.ensures in let p = c.requires in let k = c.put_u64.auto.s in omega arith

pub returns : goal.returns
returns c =
    board-put c.args.form _ _ c.put_u64.new.s _ _ (ap (◌- 8) c.board_row-end.ensures) c.requires
    c.put_u64.ensures c.put_u64.auto.s c.clear.ensures
