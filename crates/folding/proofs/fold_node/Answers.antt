-- By the kind of the byte: a law for each way out. Assumes nothing.
use mathlib.Core.Path.{refl, ap, ◌∙◌}
use native.Mathlib.Omega.{arith}
use Rattle.kinds.specs.declared.Kind.TheVariants.{Two}
use Rattle.folding.proofs.Nodes.{node-roomed, node-leaf, node-one, node-two, node-one-ask, node-two-ask, node-none}
use Rattle.folding.proofs.fold_node.Goals as goal

pub fold_leaf-requires : goal.fold_leaf-requires
fold_leaf-requires c = let r = node-roomed c.requires in (r.low, r.inside, r.note-low, r.beside)

pub overflow_sub-result : goal.overflow_sub-result
overflow_sub-result c = let l = (node-roomed c.requires).note-low in omega arith

pub fold_one-requires : goal.fold_one-requires
fold_one-requires c = node-one-ask c.from-k.ensures c.in-One.is c.requires

pub fold_join-requires : goal.fold_join-requires
fold_join-requires c = node-two-ask c.from-k.ensures c.in-Two.is c.requires

pub fold_until-requires : goal.fold_until-requires
fold_until-requires c = node-two-ask c.from-k.ensures c.in-Two.is c.requires

pub returns-in-Zero : goal.returns-in-Zero
returns-in-Zero c = node-leaf c.from-k.ensures c.in-Zero.is c.fold_leaf.ensures

pub returns-in-One : goal.returns-in-One
returns-in-One c = node-one c.from-k.ensures c.in-One.is c.fold_one.ensures

pub returns-in-Joined : goal.returns-in-Joined
returns-in-Joined c = node-two c.from-k.ensures (c.in-Two.is ∙ ap Two c.in-Joined.is) c.fold_join.ensures (λ h. h)

pub returns-in-Until : goal.returns-in-Until
returns-in-Until c = node-two c.from-k.ensures (c.in-Two.is ∙ ap Two c.in-Until.is) c.fold_until.ensures (λ h. refl)

pub returns-in-NoCode : goal.returns-in-NoCode
returns-in-NoCode c = node-none c.from-k.ensures c.in-NoCode.is
