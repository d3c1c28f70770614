-- The right operand stands behind the left one, whose mark tells its length; a law for each operator. Assumes nothing.
use mathlib.Core.Path.{◌∙◌}
use Rattle.parting.proofs.Nodes.{pair-joined, pair-until}
use Rattle.parting.proofs.pair_top.Goals as goal

pub returns-in-Joined : goal.returns-in-Joined
returns-in-Joined c = pair-joined _ _ _ _ _ _ _ c.in-Joined.is (c.from-in-Joined.ensures ∙ c.from.ensures) c.length_of.ensures.0 c.between.ensures

pub returns-in-Until : goal.returns-in-Until
returns-in-Until c = pair-until _ _ _ _ _ _ c.in-Until.is c.from-in-Until.ensures c.length_of.ensures.0 c.between-in-Until.ensures
