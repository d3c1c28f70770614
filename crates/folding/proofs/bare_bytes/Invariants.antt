-- What is left tells what all of it does. Assumes nothing.
use Rattle.std.proofs.Common.{◌≡◌, drop}
use Rattle.folding.specs.Bare.{bare_from}
use Rattle.folding.proofs.bare_bytes.Given as goal

abbrev pub invariant-loop-b : goal.invariant-loop-b
invariant-loop-b l = bare_from 0 l.s ≡ bare_from l.last (drop l.b-index l.s)
