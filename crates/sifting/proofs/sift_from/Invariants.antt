-- The first i records are marked and the kept ones put (`SiftedTo`), the counter before is that of the last one (`StepsTo`), where a break ends it
-- none has come (`NoneYet`), and the recording are bytes. Assumes nothing.
use Prim.Native.Nat.{◌<◌}
use Rattle.le.proofs.Laws.{Bytes}
use Rattle.neighbours.specs.Steps.{StepsTo}
use Rattle.sifting.specs.Sifted.{SiftedTo}
use Rattle.sifting.proofs.Turning.{NoneYet}
use Rattle.sifting.proofs.sift_from.Given as goal

abbrev pub invariant-loop-i : goal.invariant-loop-i
invariant-loop-i l = record {
  sifted : SiftedTo l.recording l.out l.marks l.i l.kept;
  steps : l.i < l.n → StepsTo l.recording l.i l.before;
  none : NoneYet l.recording l.from l.i l.stop;
  bytes : Bytes l.recording;
}
