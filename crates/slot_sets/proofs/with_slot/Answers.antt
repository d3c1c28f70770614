-- A one that is shifted by less than the width is that power of 2. Assumes nothing.
use mathlib.Core.Path.{ap}
use Prim.Native.Nat.{ℕ}
use lib.Bits.{bit_or}
use Rattle.masks.proofs.Bits.{one_shifted}
use Rattle.slot_sets.specs.SlotSets.{with_slot}
use Rattle.slot_sets.proofs.with_slot.Goals as goal

pub returns : goal.returns
unfolding with_slot
returns c = let a = c.args in ap (λ (y : ℕ). record { bits = bit_or a.x.bits y }) (one_shifted a.k c.requires)
