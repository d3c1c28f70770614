-- `rules::checks::offsets_ok` meets its contract: its tests are those of `offsets_ok`, in the same order. No loop. Assumes nothing.
use borrow.Author.Tests.{eq-eqb, ne_eqb}
use Rattle.lists.specs.Tests.{both}
use Rattle.rules.specs.Read.{offsets_ok}
use Rattle.rules.proofs.checks.offsets_ok.Goals as goal

pub returns-then-u16_at-ne-MASKS_AT : goal.returns-then-u16_at-ne-MASKS_AT
unfolding offsets_ok both
returns-then-u16_at-ne-MASKS_AT c = rw (← c.u16_at.ensures, ne_eqb _ _ c.if-u16_at-ne-MASKS_AT.true)

pub returns-then-u16_at-b : goal.returns-then-u16_at-b
unfolding offsets_ok both
returns-then-u16_at-b c = rw (← c.u16_at.ensures, ← c.u16_at-2.ensures, ← c.requires.1, eq-eqb _ _ c.if-u16_at-ne-MASKS_AT.false, ne_eqb _ _ c.if-u16_at-b.true)

pub returns : goal.returns
unfolding offsets_ok both
returns c = rw (← c.u16_at.ensures, ← c.u16_at-2.ensures, ← c.u32_at.ensures, ← c.requires.1, ← c.requires.2, eq-eqb _ _ c.if-u16_at-ne-MASKS_AT.false, eq-eqb _ _ c.if-u16_at-b.false)
