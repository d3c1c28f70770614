-- The slots that a slot of a passing state holds, one by one: their numbers are above its own and below the number of slots
-- (`slot-holds`); where it is stepped they are stepped too, and no constants (`slot_held`). Assumes nothing.
use mathlib.Core.Path.{◌≡◌}
use mathlib.Core.Bool.{true, false, not}
use mathlib.Core.List.{List}
use Prim.Native.Nat.{ℕ, ◌<◌}
use lib.Dec.{ltb, eqb}
use borrow.Author.Tests.{ltb-true, eqb-true, not-true}
use Rattle.lists.specs.Tests.{both}
use Rattle.lists.proofs.Tests.{both-0, both-1}
use Rattle.kinds.specs.declared.Leaf.TheVariants.{Const, Prop, Hold}
use Rattle.kinds.specs.declared.Unary.TheVariants.{Not, Next, Ever}
use Rattle.kinds.specs.declared.Binary.TheVariants.{Joined, Until}
use Rattle.ltl.specs.Formula.{Formula, leaf, one, two, Within}
use Rattle.masks.specs.Masks.{sum_ones}
use Rattle.network.proofs.Laying.{HoldsIn}
use Rattle.network.proofs.Holding.{holds-map, only-holds}
use Rattle.state.specs.Fields.{slots_in, masks_in, stepped_in}
use Rattle.state.specs.Clauses.{is_constant_in}
use Rattle.state.specs.Bytes.{formula_at}
use Rattle.checked.proofs.Passing.{SlotPassing}

-- place holders that pass, in a formula whose place holders are below `end`
holds-within : (Q : ℕ → Type 0) (p end : ℕ) (f : Formula) → Within p end f → HoldsIn Q f → HoldsIn (λ m. Q m × (m < end)) f
holds-within Q p end (leaf (Const v)) w h = tt
holds-within Q p end (leaf (Prop i)) w h = tt
holds-within Q p end (leaf (Hold m)) w h = (h, w)
holds-within Q p end (one Not f) w h = holds-within Q p end f w h
holds-within Q p end (one Next f) w h = tt
holds-within Q p end (one (Ever j) f) w h = tt
holds-within Q p end (two (Joined j) f g) w h = (holds-within Q p end f w.0 h.0, holds-within Q p end g w.1 h.1)
holds-within Q p end (two Until f g) w h = tt

module _ (s : List ℕ) (k : ℕ) (x : SlotPassing s k) where
  pub slot-holds : HoldsIn (λ m. (k < m) × (m < slots_in s)) (formula_at s k)
  slot-holds =
      let f = formula_at s k in
      holds-within (λ m. k < m) (sum_ones (masks_in s)) (slots_in s) f x.within
      (holds-map (λ m. ltb k m ≡ true) (λ m. k < m) (λ m e. ltb-true k m e) f (only-holds (λ m. ltb k m) f x.above))

  pub slot_held : stepped_in s k ≡ 1 → HoldsIn (λ m. (stepped_in s m ≡ 1) × (is_constant_in s m ≡ false)) (formula_at s k)
  slot_held e =
      let f = formula_at s k in
      holds-map (λ m. both (eqb (stepped_in s m) 1) (not (is_constant_in s m)) ≡ true) (λ m. (stepped_in s m ≡ 1) × (is_constant_in s m ≡ false))
      (λ m h. (eqb-true (stepped_in s m) 1 (both-0 _ _ h), not-true (is_constant_in s m) (both-1 _ _ h))) f (only-holds (λ m. both (eqb (stepped_in s m) 1) (not (is_constant_in s m))) f (x.held e))
