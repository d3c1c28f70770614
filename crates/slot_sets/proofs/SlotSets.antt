-- What is in a set: nothing in the empty one (`none_has`), every slot in the full one (`every-has`), and in a set with one slot besides that one
-- (`with-same`) and what was in it before (`with-other`; `with-has` says both). Assumes nothing.
use mathlib.Core.Path.{◌≡◌, refl, ap, ◌∙◌}
use mathlib.Core.Bool.{true, false}
use Prim.Native.Nat.{ℕ, ◌<◌}
use lib.Dec.{eqb}
use borrow.Author.Tests.{eq-eqb, ne_eqb}
use Rattle.limits.specs.Limits.{holder_codes}
use Rattle.lists.specs.Tests.{either}
use Rattle.lists.proofs.Tests.{either-right, no_bits}
use Rattle.slot_sets.specs.declared.SlotSet.{SlotSet}
use Rattle.slot_sets.specs.SlotSets.{has_slot, no_slots, every_slot, with_slot}
use Rattle.slot_sets.proofs.Bits.{either-false, bit-set, bit-all}

pub none_has : (k : ℕ) → has_slot no_slots k ≡ false
unfolding has_slot no_slots
none_has k = no_bits k

pub every-has : (k : ℕ) → k < holder_codes → has_slot every_slot k ≡ true
unfolding has_slot every_slot
every-has k h = bit-all holder_codes k h

module _ (x : SlotSet) where
  pub with-has : (m k : ℕ) → has_slot (with_slot x m) k ≡ either (has_slot x k) (eqb m k)
  unfolding has_slot with_slot
  with-has m k = bit-set x.bits m k

  pub with-same : (m : ℕ) → has_slot (with_slot x m) m ≡ true
  with-same m = with-has m m ∙ ap (either (has_slot x m)) (eq-eqb m m refl) ∙ either-right (has_slot x m)

  pub with-other : (m k : ℕ) → (m ≡ k → ⊥) → has_slot (with_slot x m) k ≡ has_slot x k
  with-other m k d = with-has m k ∙ ap (either (has_slot x k)) (ne_eqb m k d) ∙ either-false (has_slot x k)
