-- The tests of the definition; the state's check tells that slot 0 is there. Assumes nothing.
use mathlib.Core.Path.{sym, ◌∙◌}
use Rattle.records.proofs.Opened.{opened-sized, opened-first, opened-slot}
use Rattle.opening.proofs.Going.{finished-many, finished-stepped, finished-is}
use Rattle.opening.proofs.finished.Goals as goal

pub returns-then-c-ne1 : goal.returns-then-c-ne1
returns-then-c-ne1 c = finished-many _ (λ q. c.if-c-ne1.true (c.requires.header.slots-are ∙ q))

pub mark_of-requires : goal.mark_of-requires
mark_of-requires c = let o = c.requires in (opened-sized o, opened-first o)

pub returns-then-mark_of-ne0 : goal.returns-then-mark_of-ne0
returns-then-mark_of-ne0 c = finished-stepped _ (λ q. c.if-mark_of-ne0.true (c.mark_of.ensures ∙ q))

pub is_constant-requires : goal.is_constant-requires
is_constant-requires c = let o = c.requires in opened-slot o 0 (opened-first o)

pub returns : goal.returns
returns c = c.is_constant.ensures ∙ finished-is _ (sym c.requires.header.slots-are ∙ c.if-c-ne1.false) (sym c.mark_of.ensures ∙ c.if-mark_of-ne0.false)
