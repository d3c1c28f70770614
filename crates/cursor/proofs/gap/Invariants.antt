-- The invariant: what was passed so far is a gap. Assumes nothing.
use Prim.Native.Nat.{◌-◌}
use lib.ListN.{length}
use Rattle.cursor.specs.Readers.{GapRead}
use Rattle.cursor.proofs.gap.Given as goal

abbrev pub invariant-loop-b : goal.invariant-loop-b
invariant-loop-b l = GapRead l.text l.initial.cur l.cur

abbrev pub decreases-loop-b : goal.decreases-loop-b
decreases-loop-b l = length l.text - l.cur.byte
