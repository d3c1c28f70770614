-- The test of the definition, by where the slot's nodes lie. Assumes nothing.
use mathlib.Core.Path.{◌∙◌}
use borrow.Author.Tests.{ne_eqb}
use Rattle.checking.proofs.Constants.{constant-is, constant-not}
use Rattle.checking.proofs.formulas.is_constant.Goals as goal

pub returns-then-to-from-eq1 : goal.returns-then-to-from-eq1
returns-then-to-from-eq1 c = constant-is c.span_of-from.ensures c.if-to-from-eq1.true

pub returns-else-to-from-eq1 : goal.returns-else-to-from-eq1
returns-else-to-from-eq1 c = ne_eqb _ _ c.if-to-from-eq1.false ∙ constant-not c.span_of-from.ensures c.if-to-from-eq1.false
