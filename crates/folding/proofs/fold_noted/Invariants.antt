-- From the last byte to the first: at each place the formulas behind it are folded (`FoldedTo`). Assumes nothing.
use Rattle.ltl.specs.Formula.{Formula}
use Rattle.folding.specs.Folds.{FoldedTo}
use Rattle.folding.proofs.fold_noted.Given as goal

abbrev pub invariant-loop-i : goal.invariant-loop-i
invariant-loop-i l = (f : Formula) × FoldedTo f l.s l.p l.notes l.i l.low.w l.low.t
