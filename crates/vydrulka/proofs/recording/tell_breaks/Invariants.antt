-- No more breaks are told than records were looked at. Assumes nothing.
use Rattle.std.proofs.Common.{◌≤◌}
use Rattle.vydrulka.proofs.recording.tell_breaks.Given as goal

abbrev pub invariant-loop-i : goal.invariant-loop-i
invariant-loop-i l = (1 ≤ l.i) × (l.breaks ≤ l.i)
