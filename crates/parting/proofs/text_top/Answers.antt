-- The text's length is the one in its mark. Assumes nothing.
use mathlib.Core.Path.{ap}
use Rattle.parting.specs.Tops.{text_top}
use Rattle.parting.proofs.text_top.Goals as goal

pub returns : goal.returns
returns c = ap (text_top c.args.at) c.length_of-n.ensures.0
