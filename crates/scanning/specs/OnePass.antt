-- One pass over a slot's bytes: the shape of the loop in `pass_over`. What it means is the formula clause of the state check together
-- with the clause that no place holder stands twice; proofs/Passes.antt and proofs/Owing.antt have the laws. Assumes nothing:
-- these are definitions.
use Rattle.std.specs.Prelude.{ℕ, ◌+◌, ◌-◌, ◌≤◌, Bool, not, List, [], ◌∷◌, ltb, Option, Some, None}
use Rattle.limits.specs.Limits.{propositions_most, holder_codes}
use Rattle.lists.specs.Tests.{pick, both, bit}
use Rattle.kinds.specs.declared.Leaf.{Leaf}
use Rattle.kinds.specs.declared.Leaf.TheVariants.{Const, Prop, Hold}
use Rattle.kinds.specs.declared.Unary.{Unary}
use Rattle.kinds.specs.declared.Unary.TheVariants.{Not, Next, Ever}
use Rattle.kinds.specs.declared.Binary.{Binary}
use Rattle.kinds.specs.declared.Binary.TheVariants.{Joined, Until}
use Rattle.kinds.specs.declared.Kind.{Kind}
use Rattle.kinds.specs.declared.Kind.TheVariants.{Zero, One, Two, NoCode}
use Rattle.kinds.specs.Kinds.{kind_of, operands}
use Rattle.ltl.specs.Formula.{node_over}
use Rattle.slot_sets.specs.declared.SlotSet.{SlotSet}
use Rattle.slot_sets.specs.SlotSets.{has_slot, with_slot}
use Rattle.scanning.specs.declared.Allowed.{Allowed}
use Rattle.scanning.specs.declared.Pass.{Pass}

-- numbers that a mask of propositions has a bit for, and slots that place holders have codes for
pub record Fitted (a : Allowed) : Type 0 where
  pub propositions : a.propositions ≤ propositions_most
  pub slots : a.slots ≤ holder_codes

-- n operands are owed outside and m inside
abbrev pub at : ℕ → ℕ → SlotSet → Pass
at n m seen = record { outer = n; inner = m; seen = seen }

-- a place holder of slot m may stand
abbrev pub holder_ok : Allowed → ℕ → Bool
holder_ok a m = both (ltb m a.slots) (both (ltb a.slot m) (has_slot a.holders m))

-- ---- behind a node outside next and the temporal operators, with n operands owed beside it
abbrev pub leaf_outside : Allowed → Leaf → ℕ → SlotSet → Option Pass
leaf_outside a (Const v) n seen = Some (at n 0 seen)
leaf_outside a (Prop i) n seen = pick (both (ltb i a.propositions) (bit a.own i)) (Some (at n 0 seen)) None
leaf_outside a (Hold m) n seen = pick (both (holder_ok a m) (not (has_slot seen m))) (Some (at n 0 (with_slot seen m))) None

-- what a next or a temporal operator asks of its operands they ask inside
abbrev pub unary_outside : Bool → Unary → ℕ → SlotSet → Option Pass
unary_outside temporal Not n seen = Some (at (n + 1) 0 seen)
unary_outside temporal Next n seen = Some (at n 1 seen)
unary_outside temporal (Ever j) n seen = pick temporal (Some (at n 1 seen)) None

abbrev pub binary_outside : Bool → Binary → ℕ → SlotSet → Option Pass
binary_outside temporal (Joined j) n seen = Some (at (n + 2) 0 seen)
binary_outside temporal Until n seen = pick temporal (Some (at n 2 seen)) None

abbrev pub outside_after : Allowed → Kind → ℕ → SlotSet → Option Pass
outside_after a (Zero l) n seen = leaf_outside a l n seen
outside_after a (One o) n seen = unary_outside a.temporal o n seen
outside_after a (Two o) n seen = binary_outside a.temporal o n seen
outside_after a NoCode n seen = None

-- ---- behind a node inside: a rule's nodes alone, with m operands owed inside beside it and n outside
abbrev pub inside_after : ℕ → Kind → ℕ → ℕ → SlotSet → Option Pass
inside_after p k m n seen = pick (node_over p 0 k) (Some (at n (m + operands k) seen)) None

-- ---- the pass: operands inside come first, and a node stands where one is owed
unfoldable pub pass_after : Allowed → Kind → Pass → Option Pass
pass_after a k x =
    pick (ltb 0 x.inner) (inside_after a.propositions k (x.inner - 1) x.outer x.seen)
    (pick (ltb x.outer 1) None (outside_after a k (x.outer - 1) x.seen))

abbrev pub go_on : Option Pass → (Pass → Option SlotSet) → Option SlotSet
go_on (Some x) rest = rest x
go_on None rest = None

-- at the end no operand is owed
unfoldable pub ended : Pass → Option SlotSet
ended x = pick (ltb 0 x.outer) None (pick (ltb 0 x.inner) None (Some x.seen))

unfoldable pub pass : Allowed → List ℕ → Pass → Option SlotSet
pass a [] x = ended x
pass a (b ∷ l) x = go_on (pass_after a (kind_of b) x) (λ y. pass a l y)

-- ---- the place holders that a pass has met
-- the place holders' slots noted in a set, one after the other; none may be there already
unfoldable pub noted : List ℕ → SlotSet → Option SlotSet
noted [] seen = Some seen
noted (m ∷ ms) seen = pick (has_slot seen m) None (noted ms (with_slot seen m))
