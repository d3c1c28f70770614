-- What is in hand stays within the piece, and the ticks that can still be counted fall. Assumes nothing.
use Rattle.std.proofs.Common.{◌-◌, ◌^◌, ◌≤◌, length}
use Rattle.programs.specs.Hand.{InHand}
use Rattle.progress.proofs.run.Given as goal

abbrev pub invariant-loop-ticks : goal.invariant-loop-ticks
invariant-loop-ticks g l = InHand (length l.piece) l.hand × (8 ≤ length l.piece)

abbrev pub decreases-loop-ticks : goal.decreases-loop-ticks
decreases-loop-ticks g l = 2 ^ 64 - l.ticks
