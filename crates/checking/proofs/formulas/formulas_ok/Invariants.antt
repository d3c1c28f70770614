-- The slots before k pass and their place holders are noted (`SeenBefore`). Assumes nothing.
use Rattle.checking.proofs.Forming.{SeenBefore}
use Rattle.checking.proofs.formulas.formulas_ok.Given as goal

abbrev pub invariant-loop-k : goal.invariant-loop-k
invariant-loop-k l = SeenBefore l.s l.p l.k l.seen
