-- Up to i the tokens say the same. Assumes nothing.
use Rattle.entering.proofs.Telling.{Told}
use Rattle.entering.proofs.same_tokens.Given as goal

abbrev pub invariant-loop-i : goal.invariant-loop-i
invariant-loop-i l = Told l.bytes l.marks l.bodies l.from l.tokens l.i
