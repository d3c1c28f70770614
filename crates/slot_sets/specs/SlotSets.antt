-- Sets of slots: of the numbers that place holders have codes for. Shut, so that nobody depends on how a set is kept; what others need to
-- know of a set are the laws of proofs/SlotSets.antt. Assumes nothing: these are definitions.
use Rattle.std.specs.Prelude.{ℕ, ◌-◌, ◌^◌, Bool}
use Rattle.std.specs.Int.Bits.{bit_or}
use Rattle.limits.specs.Limits.{holder_codes}
use Rattle.lists.specs.Tests.{bit}
use Rattle.slot_sets.specs.declared.SlotSet.{SlotSet}

-- slot k is in the set: bit k is 1
unfoldable pub has_slot : SlotSet → ℕ → Bool
has_slot x k = bit x.bits k

-- no slot
unfoldable pub no_slots : SlotSet
no_slots = record { bits = 0 }

-- every slot
unfoldable pub every_slot : SlotSet
every_slot = record { bits = 2 ^ holder_codes - 1 }

-- the set with slot k besides
unfoldable pub with_slot : SlotSet → ℕ → SlotSet
with_slot x k = record { bits = bit_or x.bits (2 ^ k) }
