-- Where the lowest byte is no constant's, none is. Assumes nothing.
use mathlib.Core.Path.{◌∙◌}
use native.Mathlib.Omega.{arith}
use borrow.Author.Tests.{le-leb}
use Rattle.folding.proofs.Bares.{lowest-bare}
use Rattle.folding.proofs.is_bare.Goals as goal

pub returns-then-lowest-ge2 : goal.returns-then-lowest-ge2
returns-then-lowest-ge2 c = le-leb _ _ c.if-lowest-ge2.true ∙ lowest-bare 255 0 c.args.s.now (omega arith)
