-- The and-chains of 02: 63 copies of a or b are 2 slots of 252 nodes, 64 copies 256; and a held network merged at a close. Assumes nothing.
use mathlib.Core.Path.{◌≡◌, refl}
use mathlib.Core.Bool.{true, false}
use mathlib.Core.List.{List, [], ◌∷◌, map, ◌++◌}
use Prim.Native.Nat.{ℕ, zero, suc, ◌+◌, max}
use lib.ListN.{length}
use lib.Dec.{eqb, ltb}
use Rattle.lists.specs.Tests.{pick, both, bit}
use Rattle.kinds.specs.declared.Leaf.TheVariants.{Const, Prop, Hold}
use Rattle.kinds.specs.declared.Unary.TheVariants.{Not, Next, Ever}
use Rattle.kinds.specs.declared.Join.TheVariants.{And, Or}
use Rattle.kinds.specs.declared.Binary.TheVariants.{Joined, Until}
use Rattle.ltl.specs.Formula.{Formula, leaf, one, two, join, size, same_bool, same_leaf, same}
use Rattle.network.specs.Scores.{highest, chosen}
use Rattle.network.specs.Layout.{Slot, looked, laid, load, relaid, close}
use Rattle.merging.specs.Merge.{tree_at, same_tree, is_slot, longest, is_in, firsts, level, levels, ordered, place, numbered, merged, merged_load, merged_close}
use Rattle.merging.specs.Lays.{looked_tree, laid_tree, relaid_tree, load_tree, close_tree}

abbrev a : Formula
a = leaf (Prop 0)

abbrev b : Formula
b = leaf (Prop 1)

abbrev copies : ℕ → Formula
copies zero = join Or a b
copies (suc n) = join And (join Or a b) (copies n)

abbrev nodes_of : List Slot → ℕ
nodes_of [] = 0
nodes_of (s ∷ ss) = size s.formula + nodes_of ss

abbrev two-masks : List ℕ
two-masks = 1 ∷ 2 ∷ []

copies-63 : length (merged_load (chosen two-masks) (copies 62)) ≡ 2
unfolding pick both bit highest chosen looked laid load tree_at same_leaf same same_tree is_slot longest is_in firsts level levels ordered place numbered merged same_bool
copies-63 = refl

copies-63-nodes : nodes_of (merged_load (chosen two-masks) (copies 62)) ≡ 252
unfolding pick both bit highest chosen looked laid load tree_at same_leaf same same_tree is_slot longest is_in firsts level levels ordered place numbered merged same_bool
copies-63-nodes = refl

copies-64-nodes : nodes_of (merged_load (chosen two-masks) (copies 63)) ≡ 256
unfolding pick both bit highest chosen looked laid load tree_at same_leaf same same_tree is_slot longest is_in firsts level levels ordered place numbered merged same_bool
copies-64-nodes = refl

copies-64-direct : nodes_of (load_tree (chosen two-masks) (copies 63)) ≡ 256
unfolding pick both bit highest chosen looked_tree laid_tree load_tree same_leaf same same_tree is_slot longest is_in firsts level levels ordered place numbered same_bool
copies-64-direct = refl

-- A-8: (0: 3 129 130)(0: 2 132)(0: 2 131)(0: 132)(0: 64) closes to (0: 3 129 129)(0: 2 130)(0: 64)
a8 : List Slot
a8 =
    record { board = 0; formula = join And (leaf (Hold 1)) (leaf (Hold 2)) } ∷ record { board = 0; formula = one Not (leaf (Hold 4)) }
    ∷ record { board = 0; formula = one Not (leaf (Hold 3)) } ∷ record { board = 0; formula = leaf (Hold 4) } ∷ record { board = 0; formula = a } ∷ []

a8-is : merged_close (chosen two-masks) a8 ≡ record { board = 0; formula = join And (leaf (Hold 1)) (leaf (Hold 1)) } ∷ record { board = 0; formula = one Not (leaf (Hold 2)) } ∷ record { board = 0; formula = a } ∷ []
unfolding a8 pick both bit highest chosen looked laid close relaid tree_at same_leaf same same_tree is_slot longest is_in firsts level levels ordered place numbered merged same_bool
a8-is = refl

-- A-11: first meeting, a slot's descendants before its next sibling: (0: 3 129 131)(0: 3 130 131)(0: 64)(0: 2 64) has 64 before 2 64
a11 : List Slot
a11 =
    record { board = 0; formula = join And (leaf (Hold 1)) (leaf (Hold 3)) } ∷ record { board = 0; formula = join And (leaf (Hold 2)) (leaf (Hold 3)) }
    ∷ record { board = 0; formula = a } ∷ record { board = 0; formula = one Not a } ∷ []

a11-is : map (λ s. s.formula) (merged_close (chosen two-masks) a11) ≡ join And (leaf (Hold 1)) (leaf (Hold 3)) ∷ join And (leaf (Hold 2)) (leaf (Hold 3)) ∷ a ∷ one Not a ∷ []
unfolding a11 pick both bit highest chosen looked laid close relaid tree_at same_leaf same same_tree is_slot longest is_in firsts level levels ordered place numbered merged same_bool
a11-is = refl
