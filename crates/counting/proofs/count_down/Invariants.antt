-- The tables have what the slots from k on count; at 0 the first entries are the whole. Assumes nothing.
use Rattle.counting.proofs.Filling.{Filled}
use Rattle.counting.proofs.count_down.Given as goal

abbrev pub invariant-loop-k : goal.invariant-loop-k
invariant-loop-k l = Filled l.state l.k l.slots l.nodes
