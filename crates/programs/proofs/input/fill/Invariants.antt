-- What came stays within the piece, and the bytes that were there stay in front. The room that is left falls, since a read that goes on has
-- brought some bytes. Assumes nothing.
use Rattle.std.proofs.Common.{◌-◌, ◌≡◌, ◌≤◌, length, take}
use Rattle.programs.proofs.input.fill.Given as goal

abbrev pub invariant-loop-end : goal.invariant-loop-end
invariant-loop-end g l = (l.had ≤ l.end) × (l.end ≤ length l.piece) × (take l.had l.piece ≡ take l.had l.fn.piece)

abbrev pub decreases-loop-end : goal.decreases-loop-end
decreases-loop-end g l = length l.piece - l.end
