-- From the last byte to the first: at each place the formulas behind it are resolved (`SweptTo`). Assumes nothing.
use Rattle.ltl.specs.Formula.{Formula}
use Rattle.sweeping.specs.Passes.{SweptTo}
use Rattle.sweeping.proofs.sweep.Given as goal

abbrev pub invariant-loop-at : goal.invariant-loop-at
invariant-loop-at l = (f : Formula) × SweptTo f l.initial.p l.initial.notes l.seen l.p l.notes l.at.i l.at.w

abbrev pub decreases-loop-at : goal.decreases-loop-at
decreases-loop-at l = l.at.i
