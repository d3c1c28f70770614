use Rattle.std.proofs.Common.{◌*◌, ap}
use Rattle.state.proofs.Putting.{boards-more}
use Rattle.state.proofs.boards.put_boards.Goals as goal

pub loop-i-preserved : goal.loop-i-preserved
loop-i-preserved c =
    let k = c.loop-i in
    let a = c.args in
    boards-more a.form a.masks.now a.out.now k.out k.i k.invariant c.loop-i-test.true _ c.put_board.new.out (ap (◌* k.i) c.board_row-row.ensures) c.put_board.ensures
