use mathlib.Core.Path.{refl, ◌∙◌}
use Rattle.joining.proofs.Chains.{chain-start, chain-at, left_at, left-ask, chain-short, chain-onleft, chain-again, chain-end}
use native.Mathlib.Omega.{arith}
use Rattle.joining.proofs.members.is_member.Goals as goal

pub overflow_add-at : goal.overflow_add-at
overflow_add-at c = let k = chain-at (chain-start c.requires) in omega arith

pub overflow_add-end : goal.overflow_add-end
overflow_add-end c = let k = chain-at (chain-start c.requires) in let f = c.requires.few in omega arith

pub loop-at-init : goal.loop-at-init
loop-at-init c = (chain-start c.requires, refl, refl)

pub bounds-p-at : goal.bounds-p-at
bounds-p-at c = let k = chain-at c.loop-at.invariant.0 in omega arith

pub overflow_sub-end : goal.overflow_sub-end
overflow_sub-end c = let k = chain-at c.loop-at.invariant.0 in omega arith

pub is_same-requires : goal.is_same-requires
is_same-requires c = let k = chain-at c.loop-at.invariant.0 in (omega arith, omega arith, omega arith, omega arith)

pub returns-then-end-at : goal.returns-then-end-at
returns-then-end-at c = chain-short c.loop-at.invariant.0 c.if-end-at.true c.is_same.ensures

pub left_of-n-requires : goal.left_of-n-requires
left_of-n-requires c = left-ask c.loop-at.invariant.0 c.loop-at-test.true

pub overflow_add-right : goal.overflow_add-right
overflow_add-right c = let k = chain-at c.loop-at.invariant.0 in let f = c.requires.few in omega arith

pub overflow_add-right-in-loop-at : goal.overflow_add-right-in-loop-at
overflow_add-right-in-loop-at c = let z = left_at c.loop-at.invariant.0 c.loop-at-test.true c.left_of-n.ensures.puts c.left_of-n.ensures.means in let f = c.requires.few in omega arith

pub overflow_add-at-in-loop-at : goal.overflow_add-at-in-loop-at
overflow_add-at-in-loop-at c = let k = chain-at c.loop-at.invariant.0 in let f = c.requires.few in omega arith

pub is_same-requires-in-loop-at : goal.is_same-requires-in-loop-at
is_same-requires-in-loop-at c = let k = chain-at c.loop-at.invariant.0 in let z = left_at c.loop-at.invariant.0 c.loop-at-test.true c.left_of-n.ensures.puts c.left_of-n.ensures.means in (omega arith, omega arith, omega arith, omega arith)

pub returns-then-is_same : goal.returns-then-is_same
returns-then-is_same c = chain-onleft c.loop-at.invariant.0 c.loop-at-test.true c.left_of-n.ensures.puts c.left_of-n.ensures.means c.if-end-at.false c.is_same-in-loop-at.ensures c.if-is_same.true

pub loop-at-smaller : goal.loop-at-smaller
loop-at-smaller c = let k = chain-at c.loop-at.invariant.0 in let z = left_at c.loop-at.invariant.0 c.loop-at-test.true c.left_of-n.ensures.puts c.left_of-n.ensures.means in omega arith

pub loop-at-preserved : goal.loop-at-preserved
loop-at-preserved c = (chain-again c.loop-at.invariant.0 c.loop-at-test.true c.left_of-n.ensures.puts c.left_of-n.ensures.means c.if-end-at.false c.is_same-in-loop-at.ensures c.if-is_same.false, c.loop-at.invariant.1, c.left_of-n.auto.notes ∙ c.loop-at.invariant.2)

pub is_same-requires-2 : goal.is_same-requires-2
is_same-requires-2 c = let k = chain-at c.loop-at.invariant.0 in (omega arith, omega arith, omega arith, omega arith)

pub returns : goal.returns
returns c = chain-end c.loop-at.invariant.0 c.loop-at-test.false c.is_same-2.ensures
