-- One node, and the one board that scores is the choice. Assumes nothing.
use mathlib.Core.Path.{refl, sym, ap, ◌∙◌}
use Rattle.scores.specs.Choice.{picked_by}
use Rattle.cutting.specs.Cuts.{place_by}
use Rattle.scores.proofs.Alone.{picked-alone}
use Rattle.tagging.proofs.Tops.{over-scored}
use Rattle.tagging.proofs.tag_leaf.Goals as goal

pub returns : goal.returns
returns c =
    let e = c.one.ensures in
    over-scored e (c.place_of-board.ensures ∙ ap (place_by _) (picked-alone _ c.requires.1 ∙ ap picked_by (sym e))) refl c.seal.ensures
