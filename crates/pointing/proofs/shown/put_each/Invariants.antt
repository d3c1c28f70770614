-- The invariant: the bytes before the next one are put. Assumes nothing.
use lib.ListN.{take}
use Rattle.pointing.proofs.Columns.{Changed}
use Rattle.pointing.proofs.shown.put_each.Given as goal

abbrev pub invariant-loop-c : goal.invariant-loop-c
invariant-loop-c g l = Changed (goal.F-post g l.of) (take l.c-index l.bytes) l.initial.out l.out
