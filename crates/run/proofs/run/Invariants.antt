-- What is in hand stays within the piece. Assumes nothing.
use Rattle.std.proofs.Common.{◌≤◌, length}
use Rattle.programs.specs.Hand.{InHand}
use Rattle.run.proofs.run.Given as goal

abbrev pub invariant-loop : goal.invariant-loop
invariant-loop g l = InHand (length l.piece) l.hand × (8 ≤ length l.piece)
