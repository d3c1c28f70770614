use mathlib.Core.Path.{◌≡◌}
use mathlib.Core.Bool.{true}
use Rattle.state.specs.Clauses.{each_below, board_ok}
use Rattle.records.proofs.boards_ok.Given as goal

abbrev pub invariant-loop-i : goal.invariant-loop-i
invariant-loop-i l = each_below l.i (board_ok l.s) ≡ true
