-- What was read stays within the room, and what is left of it falls. Assumes nothing.
use Rattle.std.proofs.Common.{◌-◌, ◌≤◌, length}
use Rattle.files.proofs.read_all.Given as goal

abbrev pub invariant-loop-end : goal.invariant-loop-end
invariant-loop-end g l = l.end ≤ length l.room

abbrev pub decreases-loop-end : goal.decreases-loop-end
decreases-loop-end g l = length l.room - l.end
