-- A dash alone, or what the list is read as. Assumes nothing.
use mathlib.Core.Path.{sym, ◌∙◌}
use Rattle.spelling.proofs.Readings.{dash-typed, list-typed}
use Rattle.spelling.proofs.typed.board.Goals as goal

pub returns-then-is_dash : goal.returns-then-is_dash
returns-then-is_dash c = dash-typed _ (sym c.is_dash.ensures ∙ c.if-is_dash.true)

pub returns-else-is_dash : goal.returns-else-is_dash
returns-else-is_dash c = list-typed _ _ (sym c.is_dash.ensures ∙ c.if-is_dash.false) c.list.ensures
