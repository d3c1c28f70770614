-- The set, as it is defined. Assumes nothing.
use mathlib.Core.Path.{refl}
use Rattle.slot_sets.specs.SlotSets.{no_slots}
use Rattle.slot_sets.proofs.no_slots.Goals as goal

pub returns : goal.returns
unfolding no_slots
returns c = refl
