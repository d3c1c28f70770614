-- Each way out is a law of the invariant. Assumes nothing.
use Rattle.popping.proofs.Pops.{Popping}
use Rattle.popping.proofs.pop.Given as goal

abbrev pub invariant-loop-i : goal.invariant-loop-i
invariant-loop-i l = Popping l.levels l.depths l.d l.k l.fn.x.top l.fn.x.at l.initial.out l.i l.at l.out
