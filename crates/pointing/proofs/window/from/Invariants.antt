-- The invariant: no line feed was passed. Assumes nothing.
use Rattle.pointing.proofs.Windows.{OneLine}
use Rattle.pointing.proofs.window.from.Given as goal

abbrev pub invariant-loop-from : goal.invariant-loop-from
invariant-loop-from l = OneLine l.text l.from l.at
