use Rattle.spelling.proofs.Counting.{highest}
use Rattle.spelling.proofs.propositions.Goals as goal

pub returns : goal.returns
returns c = highest _ _ _ c.union.ensures c.union.type_inv c.from.ensures
