use mathlib.Core.Path.{refl, sym, ◌∙◌}
use lib.ListN.{length-set}
use Rattle.scores.proofs.Clearing.{own-more, own-done}
use native.Mathlib.Omega.{arith}
use Rattle.scores.proofs.own.Goals as goal

pub loop-left-init : goal.loop-left-init
loop-left-init c = (c.requires, λ i. refl)

pub bounds-owner-p : goal.bounds-owner-p
bounds-owner-p c = omega arith

pub loop-left-preserved : goal.loop-left-preserved
loop-left-preserved c =
    let d = c.loop-left in
    let l = c.lowest-p.ensures in
    (simp length-set d.invariant.0, λ i. own-more d.owner d.left c.lowest-p.result _ (omega arith) (omega arith) (l.1, l.2) i ∙ d.invariant.1 i)

pub returns : goal.returns
returns c i = sym (own-done i _ _) ∙ rw c.loop-left-test.false at (c.loop-left.invariant.1 i)
