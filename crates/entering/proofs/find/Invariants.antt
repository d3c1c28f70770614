-- The slot is none of the first k entries. Assumes nothing.
use Rattle.entering.proofs.Finding.{EntriesPassed}
use Rattle.entering.proofs.find.Given as goal

abbrev pub invariant-loop-k : goal.invariant-loop-k
invariant-loop-k l = EntriesPassed l.bytes l.marks l.tokens l.stamp l.entries l.bodies l.places l.stamps l.k
