-- `rules::checks::lengths_ok` meets its contract: its tests are those of `read_lengths_ok`, in the same order. No loop. Assumes nothing.
use borrow.Author.Tests.{le-leb, lt-leb, eq-eqb, ne_eqb}
use Rattle.lists.specs.Tests.{both}
use Rattle.rules.specs.Read.{read_lengths_ok}
use Rattle.rules.proofs.checks.lengths_ok.Goals as goal

pub returns-then-masks-ne-BOARDS_MOST : goal.returns-then-masks-ne-BOARDS_MOST
unfolding read_lengths_ok both
returns-then-masks-ne-BOARDS_MOST c = rw (ne_eqb _ _ c.if-masks-ne-BOARDS_MOST.true)

pub returns-then-formula-ne-RULE_NODES_MOST : goal.returns-then-formula-ne-RULE_NODES_MOST
unfolding read_lengths_ok both
returns-then-formula-ne-RULE_NODES_MOST c = rw (eq-eqb _ _ c.if-masks-ne-BOARDS_MOST.false, ne_eqb _ _ c.if-formula-ne-RULE_NODES_MOST.true)

pub returns-then-file-lt-MASKS_AT : goal.returns-then-file-lt-MASKS_AT
unfolding read_lengths_ok both
returns-then-file-lt-MASKS_AT c = rw (eq-eqb _ _ c.if-masks-ne-BOARDS_MOST.false, eq-eqb _ _ c.if-formula-ne-RULE_NODES_MOST.false, lt-leb _ _ c.if-file-lt-MASKS_AT.true)

pub returns : goal.returns
unfolding read_lengths_ok both
returns c = rw (eq-eqb _ _ c.if-masks-ne-BOARDS_MOST.false, eq-eqb _ _ c.if-formula-ne-RULE_NODES_MOST.false, le-leb _ _ c.if-file-lt-MASKS_AT.false, c.u32_at.ensures)
