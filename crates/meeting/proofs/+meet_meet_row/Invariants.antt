-- An entry's number falls from holder to held, so that walks end: twice the number, and one more where the entry is yet to be met. An entry
-- that is new stands behind those met (`entered`), and its tokens are walked as the root's are. Assumes nothing.
use Prim.Native.Nat.{◌+◌, ◌*◌}
use Rattle.meeting.proofs.Walking.{Walk}
use Rattle.meeting.proofs.+meet_meet_row.Given as goal

abbrev pub decreases-meet : goal.decreases-meet
decreases-meet l = 2 * l.k + 1

abbrev pub decreases-meet_row : goal.decreases-meet_row
decreases-meet_row l = 2 * l.own

abbrev pub invariant-meet_row-loop-t : goal.invariant-meet_row-loop-t
invariant-meet_row-loop-t l = Walk l.tokens l.bodies l.places l.own l.initial.row l.initial.sets l.initial.so_far l.row l.sets l.so_far l.held l.t-index
