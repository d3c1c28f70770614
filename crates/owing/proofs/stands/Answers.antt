-- One arm for each kind of node, as the definition has them. Assumes nothing.
use Rattle.ltl.specs.Formula.{leaf_over}
use Rattle.owing.proofs.stands.Goals as goal

pub returns-in-Const : goal.returns-in-Const
unfolding leaf_over
returns-in-Const c = rw (c.in-Zero.is, c.in-Const.is)

pub returns-in-Prop : goal.returns-in-Prop
unfolding leaf_over
returns-in-Prop c = rw (c.in-Zero.is, c.in-Prop.is, c.from.ensures)

pub returns-in-Hold : goal.returns-in-Hold
unfolding leaf_over
returns-in-Hold c = rw (c.in-Zero.is, c.in-Hold.is, c.from-in-Hold.ensures)
