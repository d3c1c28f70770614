-- At each turn the entries from a place on have their numbers. Assumes nothing.
use Rattle.numbering.proofs.Placing.{Counting}
use Rattle.numbering.proofs.put_numbers.Given as goal

abbrev pub invariant-loop-i : goal.invariant-loop-i
invariant-loop-i l = Counting l.order l.initial.numbers l.numbers l.i
