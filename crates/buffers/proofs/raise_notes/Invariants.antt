-- The loop has the last of the notes where they shall be. Assumes nothing.
use Rattle.std.proofs.Common.{◌+◌}
use Rattle.buffers.proofs.Moves.{Raised}
use Rattle.buffers.proofs.raise_notes.Given as goal

abbrev pub invariant-loop-i : goal.invariant-loop-i
invariant-loop-i l = Raised l.fn.notes l.from (l.from + l.up) l.n l.notes l.i
