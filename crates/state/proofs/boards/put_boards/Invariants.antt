-- The list has the records of the first i boards in front, then what it had before. Assumes nothing.
use Rattle.std.proofs.Common.{◌≡◌, ◌++◌, ◌*◌, take, drop}
use Rattle.state.specs.Form.{board_row}
use Rattle.state.specs.Bytes.{board_records}
use Rattle.state.proofs.boards.put_boards.Given as goal

abbrev pub invariant-loop-i : goal.invariant-loop-i
invariant-loop-i l = l.out ≡ board_records l.form (take l.i l.masks) ++ drop (board_row l.form * l.i) l.initial.out
