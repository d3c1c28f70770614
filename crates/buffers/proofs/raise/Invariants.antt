-- Both loops have the last of the bytes where they shall be: eight a turn, then one. Of the eights, the bytes that are left fall.
-- Assumes nothing.
use Rattle.std.proofs.Common.{◌+◌}
use Rattle.buffers.proofs.Moves.{Raised}
use Rattle.buffers.proofs.raise.Given as goal

abbrev pub invariant-loop-left : goal.invariant-loop-left
invariant-loop-left l = Raised l.fn.p l.from (l.from + l.up) l.n l.p l.left

abbrev pub decreases-loop-left : goal.decreases-loop-left
decreases-loop-left l = l.left

abbrev pub invariant-loop-i : goal.invariant-loop-i
invariant-loop-i l = Raised l.fn.p l.from (l.from + l.up) l.n l.p l.i
