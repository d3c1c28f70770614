-- The bytes before the place are added. Assumes nothing.
use Rattle.counting.proofs.Adding.{Added}
use Rattle.counting.proofs.held_by.Given as goal

abbrev pub invariant-loop-b : goal.invariant-loop-b
invariant-loop-b l = Added l.slots l.nodes l.p l.b-index l.t
