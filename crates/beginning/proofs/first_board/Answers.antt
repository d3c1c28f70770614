-- Board 0 stands in for no choice. Assumes nothing.
use mathlib.Core.Path.{sym}
use Rattle.beginning.proofs.Layouts.{board-none, board-some}
use Rattle.beginning.proofs.first_board.Goals as goal

pub returns-then-choice-eq-STAYS : goal.returns-then-choice-eq-STAYS
returns-then-choice-eq-STAYS c = sym (board-none _ c.if-choice-eq-STAYS.true)

pub returns-else-choice-eq-STAYS : goal.returns-else-choice-eq-STAYS
returns-else-choice-eq-STAYS c = sym (board-some _ c.if-choice-eq-STAYS.false)
