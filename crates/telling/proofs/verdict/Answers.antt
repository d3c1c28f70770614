-- The first node of the one slot tells. Assumes nothing.
use Rattle.records.proofs.Opened.{opened-sized, opened-first, opened-slot}
use Rattle.telling.proofs.Outcomes.{first-within, verdict-true, verdict-false}
use Rattle.telling.proofs.verdict.Goals as goal

pub span_of-first-requires : goal.span_of-first-requires
span_of-first-requires c = let o = c.requires.0 in let l = opened-first o in (opened-sized o, l, (opened-slot o 0 l).stretch)

pub bounds-s-first : goal.bounds-s-first
bounds-s-first c = first-within _ _ c.requires.0 c.span_of-first.ensures

pub returns-then-s-first-eq1 : goal.returns-then-s-first-eq1
returns-then-s-first-eq1 c = let p = c.requires in verdict-true _ _ p.0 p.1 c.span_of-first.ensures c.if-s-first-eq1.true

pub returns : goal.returns
returns c = let p = c.requires in verdict-false _ _ p.0 p.1 c.span_of-first.ensures c.if-s-first-eq1.false
