-- Small formulas apart, by what was counted. Assumes nothing.
use Rattle.unfolding.proofs.Goings.{ask-size, ask-small}
use Rattle.unfolding.proofs.unfold_into.Goals as goal

pub count_unfolded-requires : goal.count_unfolded-requires
count_unfolded-requires c = ask-size c.requires

pub unfold_with-requires-clause-asks : goal.unfold_with-requires-clause-asks
unfold_with-requires-clause-asks c = ask-small _ c.count_unfolded.ensures c.if-count_unfolded-le-SMALL_NODES.true c.requires
