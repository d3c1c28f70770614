-- The tests in the order of the definition. Assumes nothing.
use borrow.Author.Tests.{lt-leb, le-leb}
use Rattle.limits.specs.Limits.{central_nodes_most}
use Rattle.lists.specs.Tests.{both}
use Rattle.central.specs.Central.{central_lengths_ok}
use Rattle.central.proofs.lengths_ok.Goals as goal

pub returns-then-formula-lt1 : goal.returns-then-formula-lt1
unfolding central_lengths_ok both
returns-then-formula-lt1 c = rw (lt-leb 1 c.args.formula c.if-formula-lt1.true)

pub returns-then-formula-gt-CENTRAL_NODES_MOST : goal.returns-then-formula-gt-CENTRAL_NODES_MOST
unfolding central_lengths_ok both
returns-then-formula-gt-CENTRAL_NODES_MOST c = rw (le-leb 1 c.args.formula c.if-formula-lt1.false, lt-leb c.args.formula central_nodes_most c.if-formula-gt-CENTRAL_NODES_MOST.true)

pub returns : goal.returns
unfolding central_lengths_ok both
returns c = rw (le-leb 1 c.args.formula c.if-formula-lt1.false, le-leb c.args.formula central_nodes_most c.if-formula-gt-CENTRAL_NODES_MOST.false)
