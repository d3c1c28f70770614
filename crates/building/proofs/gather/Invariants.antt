-- What was gathered behind byte i is the definition's. Assumes nothing.
use Rattle.building.proofs.Passes.{PassedBack}
use Rattle.building.proofs.gather.Given as goal

abbrev pub invariant-loop-i : goal.invariant-loop-i
invariant-loop-i l = PassedBack l.text l.out l.levels l.depths l.x l.i
