-- By the kind of the byte, which stands at the node's place: a law for each way out. Assumes nothing.
use mathlib.Core.Path.{refl, ap, ◌∙◌}
use native.Mathlib.Omega.{arith}
use Rattle.ltl.proofs.Decoding.{size-some}
use Rattle.parting.specs.Tops.{alone_top}
use Rattle.parting.proofs.Standing.{node-part, node-inside}
use Rattle.parting.proofs.Nodes.{leaf-asks, one_inside, two-inside, node-leaf, node-single, node-pair, node-none, from-kind, from_first, from_some}
use Rattle.parting.proofs.node_top.Goals as goal

pub bounds-u-0 : goal.bounds-u-0
bounds-u-0 c =
    let n = node-part _ _ _ _ c.args.at _ c.requires.stands refl in
    let i = node-inside _ _ _ _ _ n.stands in let z = size-some n.formula in
    from_some c.args.u.now c.requires.bytes c.args.at c.requires.from (omega arith)

pub leaf_token-requires : goal.leaf_token-requires
leaf_token-requires c =
    let y = leaf-asks _ _ _ _ _ _ _ (node-part _ _ _ _ c.args.at _ c.requires.stands refl).stands (from-kind _ _ c.args.at _ c.requires.from c.from-k.ensures) c.in-Zero.is in
    (from_first c.args.u.now c.requires.bytes c.args.at c.requires.from ∙ y.0, y.1, c.requires.source.held)

pub single_top-requires : goal.single_top-requires
single_top-requires c =
    let y = one_inside _ _ _ _ _ _ _ (node-part _ _ _ _ c.args.at _ c.requires.stands refl).stands (from-kind _ _ c.args.at _ c.requires.from c.from-k.ensures) c.in-One.is in
    let l = c.requires.source.long in let f = c.requires.source.few in (omega arith, omega arith)

pub pair_top-requires : goal.pair_top-requires
pair_top-requires c =
    let y = two-inside _ _ _ _ _ _ _ (node-part _ _ _ _ c.args.at _ c.requires.stands refl).stands (from-kind _ _ c.args.at _ c.requires.from c.from-k.ensures) c.in-Two.is in
    let l = c.requires.source.long in let f = c.requires.source.few in (omega arith, omega arith)

pub returns-in-Zero : goal.returns-in-Zero
returns-in-Zero c =
    λ bytes u choose held f h p. node-leaf choose _ _ _ held f p _ (from-kind _ _ c.args.at _ u c.from-k.ensures) _ _ _ h c.in-Zero.is (c.alone.ensures ∙ ap alone_top c.leaf_token.ensures)

pub returns-in-One : goal.returns-in-One
returns-in-One c =
    λ bytes u choose held f h p. node-single choose _ _ _ held f p _ (from-kind _ _ c.args.at _ u c.from-k.ensures) _ _ c.in-One.is c.single_top.ensures

pub returns-in-Two : goal.returns-in-Two
returns-in-Two c =
    λ bytes u choose held f h p. node-pair choose _ _ _ held f p _ (from-kind _ _ c.args.at _ u c.from-k.ensures) _ _ c.in-Two.is c.pair_top.ensures

pub returns-in-NoCode : goal.returns-in-NoCode
returns-in-NoCode c =
    λ bytes u choose held f h p. node-none choose _ _ _ held f p _ (from-kind _ _ c.args.at _ u c.from-k.ensures) _ c.in-NoCode.is
