-- The invariant: how the machine has come to the position. Assumes nothing.
use Rattle.recognising.proofs.Passing.{PassedTo, left_of}
use Rattle.recognising.proofs.recognise.Given as goal

abbrev pub invariant-loop-x : goal.invariant-loop-x
invariant-loop-x l = PassedTo l.text l.x

abbrev pub decreases-loop-x : goal.decreases-loop-x
decreases-loop-x l = left_of l.text l.x
