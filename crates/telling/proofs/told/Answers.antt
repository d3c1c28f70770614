-- The header's numbers, and the verdict that is handed on. Assumes nothing.
use Rattle.records.proofs.Opened.{opened-sized}
use Rattle.telling.proofs.Outcomes.{told-so}
use Rattle.telling.proofs.told.Goals as goal

pub ticks_of-requires : goal.ticks_of-requires
ticks_of-requires c = (opened-sized c.requires.0).long

pub returns : goal.returns
returns c = let p = c.requires in told-so _ _ _ _ p.0 p.1 c.ticks_of.ensures
