-- By the part that begins at the place, where one stays whole. Assumes nothing.
use mathlib.Core.Path.{refl, sym, ap, ◌∙◌}
use native.Mathlib.Omega.{arith}
use lib.ListN.{length-set}
use Rattle.outlining.specs.Outlined.{whole_kind, start}
use Rattle.outlining.proofs.Outlines.{outlined-plain, here-begins, here_within, outlined-whole}
use Rattle.outlining.proofs.outline.Goals as goal

pub loop-i-init : goal.loop-i-init
loop-i-init c = (refl, omega arith, start)

pub operand_end-m-requires : goal.operand_end-m-requires
operand_end-m-requires c = here-begins c.requires c.loop-i-test.true

pub overflow_add-i : goal.overflow_add-i
overflow_add-i c = let w = here_within c.requires c.loop-i-test.true c.operand_end-m.ensures in omega arith

pub narrow-requires : goal.narrow-requires
narrow-requires c = let w = here_within c.requires c.loop-i-test.true c.operand_end-m.ensures in omega arith

pub overflow_sub-notes : goal.overflow_sub-notes
overflow_sub-notes c = let w = here_within c.requires c.loop-i-test.true c.operand_end-m.ensures in omega arith

pub bounds-notes-i : goal.bounds-notes-i
bounds-notes-i c = let w = here_within c.requires c.loop-i-test.true c.operand_end-m.ensures in omega arith

pub loop-i-smaller-then-stays_whole : goal.loop-i-smaller-then-stays_whole
loop-i-smaller-then-stays_whole c = let w = here_within c.requires c.loop-i-test.true c.operand_end-m.ensures in omega arith

pub loop-i-preserved-then-stays_whole : goal.loop-i-preserved-then-stays_whole
loop-i-preserved-then-stays_whole c =
    let l = c.loop-i in
    let kind = c.stays_whole.ensures ∙ ap whole_kind c.from.ensures in (
      length-set l.notes _ _ ∙ l.invariant.0,
      (here_within c.requires c.loop-i-test.true c.operand_end-m.ensures).1,
      outlined-whole c.requires c.loop-i-test.true c.operand_end-m.ensures l.invariant.2 l.invariant.0 (sym kind ∙ c.if-stays_whole.true) c.narrow.ensures,
    )

pub loop-i-preserved : goal.loop-i-preserved
loop-i-preserved c =
    let l = c.loop-i in
    let kind = c.stays_whole.ensures ∙ ap whole_kind c.from.ensures in
    (length-set l.notes _ _ ∙ l.invariant.0, omega arith, outlined-plain l.invariant.2 (omega arith) (sym kind ∙ c.if-stays_whole.false))
