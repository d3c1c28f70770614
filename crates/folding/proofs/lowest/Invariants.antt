-- What is left tells the lowest of all. Assumes nothing.
use Rattle.std.proofs.Common.{◌≡◌, drop}
use Rattle.folding.specs.Bare.{lowest_from}
use Rattle.folding.proofs.lowest.Given as goal

abbrev pub invariant-loop-b : goal.invariant-loop-b
invariant-loop-b l = lowest_from 255 l.s ≡ lowest_from l.low (drop l.b-index l.s)
