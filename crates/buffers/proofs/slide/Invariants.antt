-- The loops overlay p with its own bytes from `from` on, which are read before they are overwritten, eight a turn and then one;
-- what is left of n falls. Bytes that stand at the front stay. Assumes nothing.
use Rattle.std.proofs.Common.{◌-◌}
use Rattle.buffers.proofs.Moves.{Slid}
use Rattle.buffers.proofs.slide.Given as goal

abbrev pub invariant-loop-moved : goal.invariant-loop-moved
invariant-loop-moved l = Slid l.fn.p l.from l.n l.p l.moved

abbrev pub decreases-loop-moved : goal.decreases-loop-moved
decreases-loop-moved l = l.n - l.moved

abbrev pub invariant-loop-i : goal.invariant-loop-i
invariant-loop-i l = Slid l.fn.p l.from l.n l.p l.i
