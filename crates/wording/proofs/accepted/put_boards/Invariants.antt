-- The invariant: the lines of the first i boards are put. Assumes nothing.
use mathlib.Core.Path.{◌≡◌}
use mathlib.Core.List.{◌++◌}
use Prim.Native.Nat.{◌+◌, ◌*◌, ◌≤◌}
use lib.ListN.{length, take}
use Rattle.wording.specs.Accepted.{board_lines, board_line_most}
use Rattle.wording.proofs.accepted.put_boards.Given as goal

abbrev pub invariant-loop-i : goal.invariant-loop-i
invariant-loop-i g l = (length l.page ≤ length l.initial.page + board_line_most * l.i) × (l.page ≡ l.initial.page ++ board_lines 0 (take l.i l.masks))
