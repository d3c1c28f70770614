-- Unfolded, and resolved there. Assumes nothing.
use Rattle.central.proofs.Progresses.{all-outlining, all-progresses}
use Rattle.central.proofs.progress_noted.Goals as goal

pub to_front-requires : goal.to_front-requires
to_front-requires c = let u = c.unfold_all in all-outlining c.requires u.ensures u.auto.p u.auto.notes

pub returns : goal.returns
returns c = all-progresses c.requires c.unfold_all.ensures _ _ _ c.to_front.ensures
