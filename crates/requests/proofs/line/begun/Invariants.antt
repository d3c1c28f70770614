-- The number has 20 digits at the most, and each value 21 bytes. Assumes nothing.
use Rattle.std.proofs.Common.{◌+◌, ◌*◌, ◌≤◌, length}
use Rattle.requests.proofs.line.begun.Given as goal

abbrev pub invariant-loop-i : goal.invariant-loop-i
invariant-loop-i l = length l.line ≤ 20 + 21 * l.i
