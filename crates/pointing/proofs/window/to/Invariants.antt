-- The invariant: no line feed was passed. Assumes nothing.
use Rattle.pointing.proofs.Windows.{OneLine}
use Rattle.pointing.proofs.window.to.Given as goal

abbrev pub invariant-loop-to : goal.invariant-loop-to
invariant-loop-to l = OneLine l.text l.at l.to
