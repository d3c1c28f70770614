-- Laying out straight to trees, as the code does. `Bridge.antt` says that it comes to the same. Assumes nothing.
use Rattle.std.specs.Prelude.{ℕ, zero, suc, ◌+◌, List, length, eqb}
use Rattle.std.proofs.Math.Option.{Option, none, some}
use Rattle.lists.specs.Tests.{pick}
use Rattle.kinds.specs.declared.Leaf.TheVariants.{Const, Prop, Hold}
use Rattle.kinds.specs.declared.Unary.TheVariants.{Not, Next, Ever}
use Rattle.kinds.specs.declared.Binary.TheVariants.{Joined, Until}
use Rattle.ltl.specs.Formula.{Formula, leaf, one, two}
use Rattle.ltl.specs.Progression.{unfolded}
use Rattle.network.specs.Layout.{Slot, slot_at, or_zero}
use Rattle.merging.specs.Merge.{Tree, stays, negation, pair, slot, slot_on, numbered}

unfoldable pub looked_tree : Option ℕ → ℕ → (ℕ → Tree) → Tree
looked_tree none b lay = lay b
looked_tree (some c) b lay = pick (eqb c b) (lay b) (slot_on c (lay c))

unfoldable pub laid_tree : (Formula → Option ℕ) → (ℕ → Tree) → Formula → ℕ → Tree
laid_tree choose held (leaf (Const v)) b = stays (leaf (Const v))
laid_tree choose held (leaf (Prop i)) b = stays (leaf (Prop i))
laid_tree choose held (leaf (Hold m)) b = held m
laid_tree choose held (one Not f) b = negation (looked_tree (choose f) b (laid_tree choose held f))
laid_tree choose held (one Next f) b = stays (one Next f)
laid_tree choose held (one (Ever j) f) b = stays (one (Ever j) f)
laid_tree choose held (two (Joined j) f g) b = pair j (looked_tree (choose f) b (laid_tree choose held f)) (looked_tree (choose g) b (laid_tree choose held g))
laid_tree choose held (two Until f g) b = stays (two Until f g)

-- slot m, unfolded and laid again
unfoldable pub relaid_tree : (Formula → Option ℕ) → List Slot → ℕ → ℕ → Tree
relaid_tree choose slots zero m = stays (leaf (Hold m))
relaid_tree choose slots (suc most) m =
    slot_on (slot_at slots m).board (laid_tree choose (relaid_tree choose slots most) (unfolded (slot_at slots m).formula) (slot_at slots m).board)

unfoldable pub load_tree : (Formula → Option ℕ) → Formula → List Slot
load_tree choose rule = let b = or_zero (choose (unfolded rule)) in numbered b (laid_tree choose (λ m. stays (leaf (Hold m))) (unfolded rule) b)

unfoldable pub close_tree : (Formula → Option ℕ) → List Slot → List Slot
close_tree choose slots =
    numbered (slot_at slots 0).board (laid_tree choose (relaid_tree choose slots (length slots)) (unfolded (slot_at slots 0).formula) (slot_at slots 0).board)
