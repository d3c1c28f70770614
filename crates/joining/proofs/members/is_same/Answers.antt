-- Other lengths, or the bytes compared. Assumes nothing.
use borrow.Author.Tests.{ne_eqb}
use Rattle.joining.proofs.Chains.{differs-long, compares-same}
use Rattle.joining.proofs.members.is_same.Goals as goal

pub returns-then-end-at : goal.returns-then-end-at
returns-then-end-at c = compares-same c.same.ensures

pub returns-else-end-at : goal.returns-else-end-at
returns-else-end-at c = rw (ne_eqb _ _ c.if-end-at.false) (differs-long c.if-end-at.false)
