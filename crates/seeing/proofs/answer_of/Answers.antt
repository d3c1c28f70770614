-- The first byte of a slot tells what it is. Assumes nothing.
use mathlib.Core.Path.{◌∙◌}
use Rattle.records.proofs.Opened.{opened-slot}
use Rattle.checked.proofs.Lying.{slot-passing, lying}
use Rattle.seeing.proofs.Sights.{answer-is}
use native.Mathlib.Omega.{arith}
use Rattle.seeing.proofs.answer_of.Goals as goal

pub span_of-first-requires : goal.span_of-first-requires
span_of-first-requires c = let p = opened-slot c.requires.0 _ c.requires.1 in (p.sized, p.number, p.stretch)

pub bounds-s-first : goal.bounds-s-first
bounds-s-first c = let x = c.span_of-first.ensures in let y = lying c.requires.0 _ c.requires.1 in omega arith

pub returns : goal.returns
returns c = c.verdict.ensures ∙ answer-is (slot-passing c.requires.0 _ c.requires.1) c.span_of-first.ensures
