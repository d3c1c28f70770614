-- The tag is that of the length and the board. Assumes nothing.
use mathlib.Core.Path.{refl, ap}
use lib.ListN.{set}
use Rattle.tagging.proofs.seal.Goals as goal

pub returns : goal.returns
returns c = record { result = refl; writes = ap (set c.args.tags.now 0) c.tag_of.ensures }
