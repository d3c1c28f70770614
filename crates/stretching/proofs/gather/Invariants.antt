-- The events of the first stretch so far stand in front (`GatheredTo`), the counter before is that of the last record (`StepsTo`), and the recording
-- are bytes. A break ends the loop. Assumes nothing.
use Prim.Native.Nat.{◌<◌}
use Rattle.le.proofs.Laws.{Bytes}
use Rattle.neighbours.specs.Steps.{StepsTo}
use Rattle.stretching.proofs.Gathering.{GatheredTo}
use Rattle.stretching.proofs.gather.Given as goal

abbrev pub invariant-loop-i : goal.invariant-loop-i
invariant-loop-i l = record {
  gathered : GatheredTo l.recording l.events l.i l.kept;
  steps : l.i < l.n → StepsTo l.recording l.i l.before;
  bytes : Bytes l.recording;
}
