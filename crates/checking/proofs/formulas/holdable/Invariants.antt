-- The set has the slots below k that pass the test. Assumes nothing.
use Rattle.checking.specs.Slotted.{holdable_in}
use Rattle.checking.proofs.Noting.{Below}
use Rattle.checking.proofs.formulas.holdable.Given as goal

abbrev pub invariant-loop-k : goal.invariant-loop-k
invariant-loop-k l = Below (holdable_in l.s) l.k l.slots
