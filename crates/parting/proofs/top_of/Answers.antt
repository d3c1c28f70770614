-- By which part of the node it is: a law for each. Assumes nothing.
use native.Mathlib.Omega.{arith}
use Rattle.parting.proofs.Standing.{part-inside}
use Rattle.parting.proofs.Nodes.{part-asks-node, part-top-node, part-top-later, part-top-again}
use Rattle.parting.proofs.top_of.Goals as goal

pub node_top-requires : goal.node_top-requires
node_top-requires c = part-asks-node _ _ _ _ c.requires c.if-which-eq-NODE.true

pub returns-then-which-eq-NODE : goal.returns-then-which-eq-NODE
returns-then-which-eq-NODE c = let a = c.args in part-top-node a.marks.now a.held.now a.part a.u.now _ c.if-which-eq-NODE.true c.node_top.ensures

pub overflow_mul-at : goal.overflow_mul-at
overflow_mul-at c = let i = part-inside _ _ _ _ _ c.requires.stands in let m = c.requires.source.few in omega arith

pub returns-then-which-eq-LATER : goal.returns-then-which-eq-LATER
returns-then-which-eq-LATER c = λ bytes u choose held f h p. part-top-later _ _ _ choose held f p _ _ c.if-which-eq-LATER.true c.from.ensures c.between.ensures

pub text_top-requires : goal.text_top-requires
text_top-requires c =
    let i = part-inside _ _ _ _ _ c.requires.stands in
    let m = c.requires.source.few in let l = c.requires.source.long in (omega arith, omega arith)

pub returns : goal.returns
returns c = λ bytes u choose held f h p. part-top-again _ _ _ choose held f p _ c.if-which-eq-NODE.false c.if-which-eq-LATER.false c.text_top.ensures
