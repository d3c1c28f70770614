-- By the kind of the byte: a law for each way out. Assumes nothing.
use mathlib.Core.Logic.{inl, inr}
use mathlib.Core.Path.{ap, ◌∙◌}
use Rattle.kinds.specs.declared.Kind.TheVariants.{One, Two}
use Rattle.kinds.specs.declared.Unary.{Unary}
use Rattle.outlining.specs.Outlined.{whole_kind}
use Rattle.sweeping.proofs.Nodes.{node-leaf, node-leaf-coded, node-negatable, node-not, node-joinable, node-join, node-whole, node-none}
use Rattle.sweeping.proofs.settle_node.Goals as goal

pub leaf_under-requires : goal.leaf_under-requires
leaf_under-requires c = node-leaf-coded c.from-k.ensures c.in-Zero.is c.requires

pub negate-requires : goal.negate-requires
negate-requires c = node-negatable c.from-k.ensures c.in-One.is c.in-Not.is c.requires

pub join-requires : goal.join-requires
join-requires c = node-joinable c.from-k.ensures c.in-Two.is c.in-Joined.is c.deciding.ensures c.requires

pub returns-in-Zero : goal.returns-in-Zero
returns-in-Zero c = let x = c.push.ensures in node-leaf c.from-k.ensures c.in-Zero.is c.requires c.leaf_under.ensures x.0 x.1 x.2

pub returns-in-Not : goal.returns-in-Not
returns-in-Not c = node-not c.from-k.ensures c.in-One.is c.in-Not.is c.negate.ensures

pub returns-in-Next : goal.returns-in-Next
returns-in-Next c =
    let whole = λ (o : Unary). whole_kind (One o) in
    node-whole c.from-k.ensures (ap whole_kind c.in-One.is ∙ elim c.in-Next.is [ inl e ↦ ap whole e | inr x ↦ ap whole x.1 ])

pub returns-in-Joined : goal.returns-in-Joined
returns-in-Joined c = node-join c.from-k.ensures c.in-Two.is c.in-Joined.is c.deciding.ensures c.join.ensures

pub returns-in-Until : goal.returns-in-Until
returns-in-Until c = node-whole c.from-k.ensures (ap whole_kind (c.in-Two.is ∙ ap Two c.in-Until.is))

pub returns-in-NoCode : goal.returns-in-NoCode
returns-in-NoCode c = node-none c.from-k.ensures c.in-NoCode.is
