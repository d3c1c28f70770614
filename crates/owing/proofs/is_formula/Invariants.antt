-- At each turn the pass from here with what is owed now answers as the whole does. Assumes nothing.
use Rattle.owing.proofs.Scans.{Owing}
use Rattle.owing.proofs.is_formula.Given as goal

abbrev pub invariant-loop-byte : goal.invariant-loop-byte
invariant-loop-byte l = Owing l.p l.h l.s l.byte-index l.owed
