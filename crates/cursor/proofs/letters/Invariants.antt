-- The letters before this one were read. Assumes nothing.
use Rattle.text.specs.Signs.{spelling}
use Rattle.cursor.proofs.Words.{Lettered}
use Rattle.cursor.proofs.letters.Given as goal

abbrev pub invariant-loop-b : goal.invariant-loop-b
invariant-loop-b l = Lettered l.text (spelling l.v) l.initial.cur l.cur l.b-index
