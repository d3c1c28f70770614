-- The notes that the loop has gone over are 0. Assumes nothing.
use Rattle.std.proofs.Common.{◌≡◌, take, replicate}
use Rattle.buffers.proofs.clear_notes.Given as goal

abbrev pub invariant-loop-note : goal.invariant-loop-note
invariant-loop-note l = take l.note-index l.note-items ≡ replicate l.note-index 0
