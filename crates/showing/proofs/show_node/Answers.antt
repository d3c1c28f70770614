-- The law of the node's kind. Assumes nothing.
use native.Mathlib.Omega.{arith}
use Rattle.showing.proofs.Steps.{leaf-asks, leaf-ends, leaf-on, unary-asks, unary-on, pair-asks, pair-on, none-on}
use Rattle.showing.proofs.show_node.Goals as goal

pub put_leaf-end-requires : goal.put_leaf-end-requires
put_leaf-end-requires c = leaf-asks c.in-Zero.is c.requires

pub put_waiting-requires : goal.put_waiting-requires
put_waiting-requires c = let p = c.put_leaf-end in leaf-ends c.in-Zero.is p.ensures p.auto.text c.requires

pub bounds-text-at : goal.bounds-text-at
bounds-text-at c = let h = unary-asks c.in-One.is c.requires in omega arith

pub put_pair-requires : goal.put_pair-requires
put_pair-requires c = pair-asks c.in-Two.is c.requires

pub returns-in-Zero : goal.returns-in-Zero
returns-in-Zero c =
    let p = c.put_leaf-end in
    leaf-on c.in-Zero.is p.ensures p.auto.text c.put_waiting.ensures

pub returns-in-One : goal.returns-in-One
returns-in-One c = unary-on c.in-One.is c.unary_sign.ensures

pub returns-in-Two : goal.returns-in-Two
returns-in-Two c = pair-on c.in-Two.is c.put_pair.ensures

pub returns-in-NoCode : goal.returns-in-NoCode
returns-in-NoCode c = none-on c.in-NoCode.is
