-- The invariant: the digits so far made the number `value`. Assumes nothing.
use Prim.Native.Nat.{◌-◌}
use lib.ListN.{length}
use Rattle.cursor.proofs.Words.{Figured}
use Rattle.cursor.proofs.figures.Given as goal

abbrev pub invariant-loop-b : goal.invariant-loop-b
invariant-loop-b l = Figured l.text l.initial.cur l.cur l.n l.value

abbrev pub decreases-loop-b : goal.decreases-loop-b
decreases-loop-b l = length l.text - l.cur.byte
