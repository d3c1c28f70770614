-- `rules::checks::counts_ok` meets its contract: its tests are those of `counts_ok`, in the same order. No loop. Assumes nothing.
use borrow.Author.Tests.{le-leb, lt-leb}
use Rattle.lists.specs.Tests.{both}
use Rattle.rules.specs.RuleFile.{counts_ok}
use Rattle.rules.proofs.checks.counts_ok.Goals as goal

pub returns-then-boards-lt1 : goal.returns-then-boards-lt1
unfolding counts_ok both
returns-then-boards-lt1 c = rw (lt-leb _ _ c.if-boards-lt1.true)

pub returns-then-boards-gt-BOARDS_MOST : goal.returns-then-boards-gt-BOARDS_MOST
unfolding counts_ok both
returns-then-boards-gt-BOARDS_MOST c = rw (le-leb _ _ c.if-boards-lt1.false, lt-leb _ _ c.if-boards-gt-BOARDS_MOST.true)

pub returns-then-propositions-lt1 : goal.returns-then-propositions-lt1
unfolding counts_ok both
returns-then-propositions-lt1 c = rw (le-leb _ _ c.if-boards-lt1.false, le-leb _ _ c.if-boards-gt-BOARDS_MOST.false, lt-leb _ _ c.if-propositions-lt1.true)

pub returns-then-propositions : goal.returns-then-propositions
unfolding counts_ok both
returns-then-propositions c = rw (le-leb _ _ c.if-boards-lt1.false, le-leb _ _ c.if-boards-gt-BOARDS_MOST.false, le-leb _ _ c.if-propositions-lt1.false, lt-leb _ _ c.if-propositions.true)

pub returns-then-nodes-lt1 : goal.returns-then-nodes-lt1
unfolding counts_ok both
returns-then-nodes-lt1 c = rw (le-leb _ _ c.if-boards-lt1.false, le-leb _ _ c.if-boards-gt-BOARDS_MOST.false, le-leb _ _ c.if-propositions-lt1.false, le-leb _ _ c.if-propositions.false, lt-leb _ _ c.if-nodes-lt1.true)

pub returns : goal.returns
unfolding counts_ok both
returns c = rw (le-leb _ _ c.if-boards-lt1.false, le-leb _ _ c.if-boards-gt-BOARDS_MOST.false, le-leb _ _ c.if-propositions-lt1.false, le-leb _ _ c.if-propositions.false, le-leb _ _ c.if-nodes-lt1.false)
