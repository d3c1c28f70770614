-- Worked values with a register: the and-chain of 63 copies of a or b is 2 slots of 252 nodes, and the networks of A-8, A-11, A-13 and A-14
-- close as the merged layout does (crates/merging/proofs/Worked.antt). Assumes nothing.
use mathlib.Core.Path.{◌≡◌, refl}
use mathlib.Core.List.{List, [], ◌∷◌, map}
use Prim.Native.Nat.{ℕ, zero, suc}
use lib.ListN.{length}
use Rattle.lists.specs.Tests.{pick, both, either, bit}
use Rattle.kinds.specs.declared.Leaf.TheVariants.{Prop, Hold}
use Rattle.kinds.specs.declared.Unary.TheVariants.{Not, Next}
use Rattle.kinds.specs.declared.Join.TheVariants.{And, Or}
use Rattle.ltl.specs.Formula.{Formula, leaf, one, join, same_bool, same_leaf, same}
use Rattle.network.specs.Scores.{highest, chosen}
use Rattle.network.specs.Layout.{Slot}
use Rattle.registers.specs.Register.{Noted, same_slot, entry_of, entered, looked_noted, laid_noted}
use Rattle.registers.specs.Relaying.{holds_of, is_among, reached_from, reached_in, entries_of, load_noted, close_noted}
use Rattle.registers.specs.Numbers.{met_all, met_from, met_in, raised, chains_down, chain_in, on_level, by_level, order_in, place_in, network_by, network_from, size_sum}

-- proposition 0
abbrev a : Formula
a = leaf (Prop 0)

-- proposition 1
abbrev b : Formula
b = leaf (Prop 1)

-- n + 1 copies of a or b, joined by and
abbrev copies : ℕ → Formula
copies zero = join Or a b
copies (suc n) = join And (join Or a b) (copies n)

-- a on board 0 and b on board 1
abbrev two-masks : List ℕ
two-masks = 1 ∷ 2 ∷ []

copies-63 : length (load_noted (chosen two-masks) (copies 62)).register ≡ 1
unfolding pick both bit highest chosen same_leaf same same_bool same_slot entry_of entered looked_noted laid_noted load_noted
copies-63 = refl

-- the network of a root on board 0 and its register
abbrev network_of : Noted → List Slot
network_of x = network_from 0 x.here x.register

copies-63-nodes : size_sum (network_of (load_noted (chosen two-masks) (copies 62))) ≡ 252
unfolding pick both either bit highest chosen same_leaf same same_bool same_slot entry_of entered looked_noted laid_noted load_noted holds_of is_among met_all met_from met_in raised chains_down chain_in on_level by_level order_in place_in network_by size_sum
copies-63-nodes = refl

copies-64-nodes : size_sum (network_of (load_noted (chosen two-masks) (copies 63))) ≡ 256
unfolding pick both either bit highest chosen same_leaf same same_bool same_slot entry_of entered looked_noted laid_noted load_noted holds_of is_among met_all met_from met_in raised chains_down chain_in on_level by_level order_in place_in network_by size_sum
copies-64-nodes = refl

-- A-8: (0: 3 129 130)(0: 2 132)(0: 2 131)(0: 132)(0: 64) closes to (0: 3 129 129)(0: 2 130)(0: 64)
a8 : List Slot
a8 =
    record { board = 0; formula = join And (leaf (Hold 1)) (leaf (Hold 2)) } ∷ record { board = 0; formula = one Not (leaf (Hold 4)) }
    ∷ record { board = 0; formula = one Not (leaf (Hold 3)) } ∷ record { board = 0; formula = leaf (Hold 4) } ∷ record { board = 0; formula = a } ∷ []

a8-is : network_of (close_noted (chosen two-masks) a8) ≡ record { board = 0; formula = join And (leaf (Hold 1)) (leaf (Hold 1)) } ∷ record { board = 0; formula = one Not (leaf (Hold 2)) } ∷ record { board = 0; formula = a } ∷ []
unfolding a8 pick both either bit highest chosen same_leaf same same_bool same_slot entry_of entered looked_noted laid_noted reached_from reached_in entries_of close_noted holds_of is_among met_all met_from met_in raised chains_down chain_in on_level by_level order_in place_in network_by
a8-is = refl

-- A-11: first meeting, a slot's descendants before its next sibling: (0: 3 129 131)(0: 3 130 131)(0: 64)(0: 2 64) has 64 before 2 64
a11 : List Slot
a11 =
    record { board = 0; formula = join And (leaf (Hold 1)) (leaf (Hold 3)) } ∷ record { board = 0; formula = join And (leaf (Hold 2)) (leaf (Hold 3)) }
    ∷ record { board = 0; formula = a } ∷ record { board = 0; formula = one Not a } ∷ []

a11-is : map (λ s. s.formula) (network_of (close_noted (chosen two-masks) a11)) ≡ join And (leaf (Hold 1)) (leaf (Hold 3)) ∷ join And (leaf (Hold 2)) (leaf (Hold 3)) ∷ a ∷ one Not a ∷ []
unfolding a11 pick both either bit highest chosen same_leaf same same_bool same_slot entry_of entered looked_noted laid_noted reached_from reached_in entries_of close_noted holds_of is_among met_all met_from met_in raised chains_down chain_in on_level by_level order_in place_in network_by
a11-is = refl

-- A-13: a root that is one place holder stays: (0: 129)(1: 5 65) closes to itself
a13 : List Slot
a13 = record { board = 0; formula = leaf (Hold 1) } ∷ record { board = 1; formula = one Next b } ∷ []

a13-is : network_of (close_noted (chosen two-masks) a13) ≡ a13
unfolding a13 pick both either bit highest chosen same_leaf same same_bool same_slot entry_of entered looked_noted laid_noted reached_from reached_in entries_of close_noted holds_of is_among met_all met_from met_in raised chains_down chain_in on_level by_level order_in place_in network_by
a13-is = refl

-- A-14: equal nodes on two boards stay two: (0: 3 129 130)(0: 2 131)(1: 2 131)(1: 65) closes to itself
a14 : List Slot
a14 =
    record { board = 0; formula = join And (leaf (Hold 1)) (leaf (Hold 2)) } ∷ record { board = 0; formula = one Not (leaf (Hold 3)) }
    ∷ record { board = 1; formula = one Not (leaf (Hold 3)) } ∷ record { board = 1; formula = b } ∷ []

a14-is : network_of (close_noted (chosen two-masks) a14) ≡ a14
unfolding a14 pick both either bit highest chosen same_leaf same same_bool same_slot entry_of entered looked_noted laid_noted reached_from reached_in entries_of close_noted holds_of is_among met_all met_from met_in raised chains_down chain_in on_level by_level order_in place_in network_by
a14-is = refl
