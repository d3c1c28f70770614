-- The operand stands behind the node; a law for each operator. Assumes nothing.
use mathlib.Core.Path.{◌∙◌}
use Rattle.parting.proofs.Nodes.{single-not, single-next, single-ever}
use Rattle.parting.proofs.single_top.Goals as goal

pub returns-in-Not : goal.returns-in-Not
returns-in-Not c = single-not _ _ _ _ _ c.in-Not.is c.from.ensures c.over.ensures

pub returns-in-Next : goal.returns-in-Next
returns-in-Next c = single-next _ _ _ _ c.in-Next.is c.text_top.ensures

pub returns-in-Ever : goal.returns-in-Ever
returns-in-Ever c = single-ever _ _ _ _ _ _ c.in-Ever.is (c.from-in-Ever-2.ensures ∙ c.from-in-Ever.ensures) c.between.ensures
