-- One arm for each leaf. Assumes nothing.
use mathlib.Core.Path.{ap, ◌∙◌}
use mathlib.Core.Bool.{Bool}
use Rattle.kinds.specs.declared.Leaf.TheVariants.{Const}
use Rattle.kinds.specs.Kinds.{leaf_code}
use Rattle.resolving.proofs.leaf_under.Goals as goal

pub bit-requires : goal.bit-requires
bit-requires c = rw c.in-Prop.is at c.requires

pub held_under-requires : goal.held_under-requires
held_under-requires c = rw c.in-Hold.is at c.requires

pub returns-in-Prop : goal.returns-in-Prop
returns-in-Prop c = rw c.in-Prop.is (c.constant-in-Prop.ensures ∙ ap (λ (v : Bool). leaf_code (Const v)) c.bit.ensures)

pub returns-in-Hold : goal.returns-in-Hold
returns-in-Hold c = rw c.in-Hold.is c.held_under.ensures
