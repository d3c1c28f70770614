use native.Mathlib.Omega.{arith}
use Rattle.sweeping.proofs.Passes.{held_start, held-end}
use Rattle.sweeping.proofs.sweep.Goals as goal

pub loop-at-init : goal.loop-at-init
loop-at-init c = (c.requires.formula, held_start c.args.seen c.requires)

pub turn-at-requires : goal.turn-at-requires
turn-at-requires c = let v = c.loop-at.invariant in record { f = v.0; s = _; m = _; held = v.1; some = c.loop-at-test.true }

pub loop-at-smaller : goal.loop-at-smaller
loop-at-smaller c = c.turn-at.ensures.less

pub loop-at-preserved : goal.loop-at-preserved
loop-at-preserved c = let v = c.loop-at.invariant in (v.0, c.turn-at.ensures.means _ _ _ v.1)

pub returns : goal.returns
returns c = λ g x. held-end c.loop-at.invariant.1 (omega arith) g x
