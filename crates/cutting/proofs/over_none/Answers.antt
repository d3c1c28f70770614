-- The one board that scores is the choice. Assumes nothing.
use mathlib.Core.Path.{refl, sym, ap, ◌∙◌}
use Rattle.scores.specs.Choice.{picked_by}
use Rattle.scores.proofs.Alone.{picked-alone}
use Rattle.cutting.proofs.over_none.Goals as goal

pub returns : goal.returns
returns c = (refl, c.one-raw.ensures, (refl, picked-alone _ c.requires ∙ ap picked_by (sym c.one-raw.ensures), refl))
