-- The rows below r have been looked at (`LookedTo`). Assumes nothing.
use Rattle.adding.proofs.Looking.{LookedTo}
use Rattle.adding.proofs.look_over.Given as goal

abbrev pub invariant-loop-r : goal.invariant-loop-r
invariant-loop-r l = LookedTo l.report l.runs l.agrees l.r
