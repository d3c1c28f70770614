-- At each turn the entries from a number on have raised what they hold. Assumes nothing.
use Rattle.chaining.proofs.Raising.{Raising}
use Rattle.chaining.proofs.raise_all.Given as goal

abbrev pub invariant-loop-j : goal.invariant-loop-j
invariant-loop-j l = Raising l.sets l.n l.initial.chain l.chain l.j
