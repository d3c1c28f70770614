-- The mark stands behind the board. Assumes nothing.
use mathlib.Core.Path.{refl}
use Rattle.state.proofs.slots.put_mark.Goals as goal

pub returns : goal.returns
returns c = refl
