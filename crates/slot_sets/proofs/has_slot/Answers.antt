-- The test, as it is defined. Assumes nothing.
use mathlib.Core.Path.{refl}
use Rattle.lists.specs.Tests.{bit}
use Rattle.slot_sets.specs.SlotSets.{has_slot}
use Rattle.slot_sets.proofs.has_slot.Goals as goal

pub returns : goal.returns
unfolding has_slot bit
returns c = refl
