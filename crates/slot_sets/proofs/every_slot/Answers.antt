-- The set, as it is defined. Assumes nothing.
use mathlib.Core.Path.{refl}
use Rattle.slot_sets.specs.SlotSets.{every_slot}
use Rattle.slot_sets.proofs.every_slot.Goals as goal

pub returns : goal.returns
unfolding every_slot
returns c = refl
