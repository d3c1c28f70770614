-- The loop pastes bytes of s over those of p, one a turn. Assumes nothing.
use Rattle.std.proofs.Common.{◌≡◌, drop}
use lib.Seq.{paste}
use Rattle.buffers.proofs.put.Given as goal

abbrev pub invariant-loop-i : goal.invariant-loop-i
invariant-loop-i l = l.p ≡ paste l.fn.p l.to (drop l.from l.s) l.i
