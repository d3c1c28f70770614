-- The tests in the order of the definition. Assumes nothing.
use borrow.Author.Tests.{lt-leb, le-leb}
use Rattle.lists.specs.Tests.{both}
use Rattle.printing.proofs.nodes_ok.Goals as goal

pub returns-then-n-lt1 : goal.returns-then-n-lt1
unfolding both
returns-then-n-lt1 c = rw (lt-leb 1 _ c.if-n-lt1.true)

pub returns : goal.returns
unfolding both
returns c = rw (le-leb 1 _ c.if-n-lt1.false)
