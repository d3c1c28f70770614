-- A network that was laid out and whose root is a constant has that one slot: `load-single` after loading, `close-single` after closing.
-- Assumes nothing.
use mathlib.Core.Path.{◌≡◌, refl, ap}
use mathlib.Core.Bool.{Bool}
use mathlib.Core.List.{List, []}
use mathlib.Core.Option.{Option}
use Prim.Native.Nat.{ℕ, zero, suc}
use native.Mathlib.Omega.{arith}
use lib.ListN.{length}
use Rattle.kinds.specs.declared.Leaf.TheVariants.{Const, Prop, Hold}
use Rattle.kinds.specs.declared.Unary.{Unary}
use Rattle.kinds.specs.declared.Binary.{Binary}
use Rattle.kinds.specs.declared.Unary.TheVariants.{Not, Next, Ever}
use Rattle.kinds.specs.declared.Binary.TheVariants.{Joined, Until}
use Rattle.ltl.specs.Formula.{Formula, leaf, one, two, constant, size}
use Rattle.ltl.specs.Progression.{unfolded}
use Rattle.ltl.proofs.Decoding.{size-some}
use Rattle.network.specs.Layout.{Slot, Laid, or_zero, no_hold, laid, load, slot_at, relaid, close}

hold-not : (m : ℕ) (v : Bool) → leaf (Hold m) ≡ constant v → ⊥
hold-not m v e = let z : ◌≡◌ {A = ℕ} 0 1 = cc in omega arith

one-not : (o : Unary) (f : Formula) (v : Bool) → one o f ≡ constant v → ⊥
one-not o f v e = omega (arith, ap size e, size-some f)

two-not : (o : Binary) (f g : Formula) (v : Bool) → two o f g ≡ constant v → ⊥
two-not o f g v e = omega (arith, ap size e, size-some f)

module _ (choose : Formula → Option ℕ) where
  -- the constant is what was laid, and nothing was cut out of it
  laid-single : (hold : ℕ → ℕ → Laid) → ((m k : ℕ) (v : Bool) → (hold m k).here ≡ constant v → ⊥) → (f : Formula) (b k : ℕ) (v : Bool)
      → (laid choose hold f b k).here ≡ constant v → (laid choose hold f b k).slots ≡ []
  unfolding laid
  laid-single hold h (leaf (Const w)) b k v e = refl
  laid-single hold h (leaf (Prop i)) b k v e = refl
  laid-single hold h (leaf (Hold m)) b k v e = absurd (h m k v e)
  laid-single hold h (one Not f) b k v e = absurd (one-not Not _ v e)
  laid-single hold h (one Next f) b k v e = refl
  laid-single hold h (one (Ever j) f) b k v e = refl
  laid-single hold h (two (Joined j) f g) b k v e = absurd (two-not (Joined j) _ _ v e)
  laid-single hold h (two Until f g) b k v e = refl

  relaid-not : (slots : List Slot) (most m k : ℕ) (v : Bool) → (relaid choose slots most m k).here ≡ constant v → ⊥
  unfolding relaid
  relaid-not slots zero m k v e = hold-not m v e
  relaid-not slots (suc most) m k v e = hold-not k v e

  pub load-single : (rule : Formula) (v : Bool) → (slot_at (load choose rule) 0).formula ≡ constant v → length (load choose rule) ≡ 1
  unfolding load
  load-single rule v e = ap (λ (ss : List Slot). suc (length ss)) (laid-single no_hold (λ m k w q. hold-not m w q) (unfolded rule) (or_zero (choose (unfolded rule))) 1 v e)

  pub close-single : (slots : List Slot) (v : Bool) → (slot_at (close choose slots) 0).formula ≡ constant v → length (close choose slots) ≡ 1
  unfolding close
  close-single slots v e =
      let s = slot_at slots 0 in
      ap (λ (ss : List Slot). suc (length ss)) (laid-single (relaid choose slots (length slots)) (relaid-not slots (length slots)) (unfolded s.formula) s.board 1 v e)
