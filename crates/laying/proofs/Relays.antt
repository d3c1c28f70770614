-- Laying a held slot again does not depend on how many levels are allowed, where place holders have higher numbers: `relaid-again` says
-- what a held slot lays, in terms of the same function. Assumes nothing.
use mathlib.Core.Path.{◌≡◌, refl, ap, ap₂, ◌∙◌}
use mathlib.Core.List.{List}
use mathlib.Core.Option.{Option, none, some}
use Prim.Native.Nat.{ℕ, zero, suc, ◌+◌, ◌<◌, ◌≤◌}
use native.Mathlib.Omega.{arith}
use lib.ListN.{length}
use lib.Dec.{eqb}
use Rattle.lists.specs.Tests.{pick}
use Rattle.kinds.specs.declared.Leaf.TheVariants.{Const, Prop, Hold}
use Rattle.kinds.specs.declared.Unary.TheVariants.{Not, Next, Ever}
use Rattle.kinds.specs.declared.Binary.TheVariants.{Joined, Until}
use Rattle.ltl.specs.Formula.{Formula, leaf, one, two}
use Rattle.ltl.specs.Progression.{unfolded}
use Rattle.network.specs.Layout.{Slot, Laid, under, beside, cut, looked, laid, slot_at, relaid}
use Rattle.network.proofs.Laying.{HoldsIn}
use Rattle.network.proofs.Holding.{holds-map}

module _ (choose : Formula → Option ℕ) where
  looked-same : (o : Option ℕ) (b k : ℕ) (lay lay' : ℕ → ℕ → Laid) → ((c n : ℕ) → lay c n ≡ lay' c n) → looked o b k lay ≡ looked o b k lay'
  unfolding looked
  looked-same none b k lay lay' h = h b k
  looked-same (some c) b k lay lay' h = ap₂ (pick (eqb c b)) (h b k) (ap (cut c k) (h c (k + 1)))

  -- two ways to lay held slots that agree on those that a formula holds
  laid_same : (hold hold' : ℕ → ℕ → Laid) (f : Formula) (b k : ℕ) → HoldsIn (λ m. (n : ℕ) → hold m n ≡ hold' m n) f → laid choose hold f b k ≡ laid choose hold' f b k
  unfolding laid
  laid_same hold hold' (leaf (Const v)) b k h = refl
  laid_same hold hold' (leaf (Prop i)) b k h = refl
  laid_same hold hold' (leaf (Hold m)) b k h = h k
  laid_same hold hold' (one Not f) b k h = ap (under Not) (looked-same (choose f) b k (laid choose hold f) (laid choose hold' f) (λ c n. laid_same hold hold' f c n h))
  laid_same hold hold' (one Next f) b k h = refl
  laid_same hold hold' (one (Ever j) f) b k h = refl
  laid_same hold hold' (two (Joined j) f g) b k h =
      ap (λ (x : Laid). beside (Joined j) x (looked (choose g) b (k + length x.slots) (laid choose hold g)))
      (looked-same (choose f) b k (laid choose hold f) (laid choose hold' f) (λ c n. laid_same hold hold' f c n h.0))
      ∙ ap (beside (Joined j) (looked (choose f) b k (laid choose hold' f)))
      (looked-same (choose g) b (k + length (looked (choose f) b k (laid choose hold' f)).slots) (laid choose hold g) (laid choose hold' g) (λ c n. laid_same hold hold' g c n h.1))
  laid_same hold hold' (two Until f g) b k h = refl

  module _ (slots : List Slot) (higher : (m : ℕ) → m < length slots → HoldsIn (λ n. (m < n) × (n < length slots)) (unfolded (slot_at slots m).formula)) where
    relaid-levels : (a d m k : ℕ) → m < length slots → length slots ≤ a + m → length slots ≤ d + m → relaid choose slots a m k ≡ relaid choose slots d m k
    unfolding relaid
    relaid-levels zero d m k l x y = absurd (omega arith)
    relaid-levels (suc a) zero m k l x y = absurd (omega arith)
    relaid-levels (suc a) (suc d) m k l x y =
        let s = slot_at slots m in
        ap (cut s.board k)
        (laid_same (relaid choose slots a) (relaid choose slots d) (unfolded s.formula) s.board (k + 1)
        (holds-map _ _ (λ n h i. (let lo = h.0 in relaid-levels a d n i h.1 (omega arith) (omega arith))) (unfolded s.formula) (higher m l)))

    pub relaid-again : (m k : ℕ) → m < length slots
        → relaid choose slots (length slots) m k
        ≡ cut (slot_at slots m).board k (laid choose (relaid choose slots (length slots)) (unfolded (slot_at slots m).formula) (slot_at slots m).board (k + 1))
    unfolding relaid
    relaid-again m k l = relaid-levels (length slots) (suc (length slots)) m k l (omega arith) (omega arith) ∙ again
      where
        again : relaid choose slots (suc (length slots)) m k
            ≡ cut (slot_at slots m).board k (laid choose (relaid choose slots (length slots)) (unfolded (slot_at slots m).formula) (slot_at slots m).board (k + 1))
        again = refl
