use mathlib.Core.Path.{sym, ◌∙◌}
use Rattle.records.proofs.Each.{each-false}
use Rattle.records.proofs.boards_ok.Goals as goal

pub returns-then-not-board_ok : goal.returns-then-not-board_ok
returns-then-not-board_ok c = sym (each-false _ _ _ c.loop-i-test.true (sym c.board_ok.ensures ∙ c.if-not-board_ok.true))
