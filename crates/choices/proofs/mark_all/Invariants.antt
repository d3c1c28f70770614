-- From the last node to the first: at each place the formulas behind it are marked (`MarkedTo`). Assumes nothing.
use Rattle.ltl.specs.Formula.{Formula}
use Rattle.choices.specs.Waiting.{MarkedTo}
use Rattle.choices.proofs.mark_all.Given as goal

abbrev pub invariant-loop-i : goal.invariant-loop-i
invariant-loop-i l = (f : Formula) × MarkedTo f l.s l.owner l.marks l.raw l.opened l.i l.t
