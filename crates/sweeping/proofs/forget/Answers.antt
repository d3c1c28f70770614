-- The notes of a join are cleared; another formula needs none. Assumes nothing.
use Rattle.sweeping.proofs.Wholes.{forgets-joined, forgets-plain}
use native.Mathlib.Omega.{arith}
use Rattle.sweeping.proofs.forget.Goals as goal

pub clear_notes-requires : goal.clear_notes-requires
clear_notes-requires c = let a = c.requires in let x = a.1 in let y = a.2 in omega arith

pub returns-then-is_join : goal.returns-then-is_join
returns-then-is_join c = let a = c.requires in let x = a.1 in let y = a.2 in forgets-joined (omega arith) c.clear_notes.ensures

pub returns-else-is_join : goal.returns-else-is_join
returns-else-is_join c = forgets-plain (c.is_join.ensures c.if-is_join.false)
