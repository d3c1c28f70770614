-- The operand stays, or is one place holder. Assumes nothing.
use mathlib.Core.Path.{sym, ◌∙◌}
use Rattle.tagging.proofs.Tops.{shown-stays, shown-cut}
use Rattle.tagging.proofs.shown.Goals as goal

pub returns-then-stays_on : goal.returns-then-stays_on
returns-then-stays_on c = sym (shown-stays _ _ _ (sym c.stays_on.ensures ∙ c.if-stays_on.true))

pub returns-else-stays_on : goal.returns-else-stays_on
returns-else-stays_on c = sym (shown-cut _ _ _ (sym c.stays_on.ensures ∙ c.if-stays_on.false))
