-- A formula as a tree, by the number of each node's operands, and its bytes in prefix order.
-- Assumes nothing: these are definitions.
use Rattle.std.specs.Prelude.{ℕ, ◌+◌, Bool, true, false, List, [], ◌∷◌, ◌++◌, eqb, ltb}
use Rattle.lists.specs.Tests.{both}
use Rattle.limits.specs.Limits.{propositions_most, holder_codes}
use Rattle.kinds.specs.declared.Leaf.{Leaf}
use Rattle.kinds.specs.declared.Leaf.TheVariants.{Const, Prop, Hold}
use Rattle.kinds.specs.declared.Unary.{Unary}
use Rattle.kinds.specs.declared.Join.{Join}
use Rattle.kinds.specs.declared.Binary.{Binary}
use Rattle.kinds.specs.declared.Binary.TheVariants.{Joined}
use Rattle.kinds.specs.declared.Kind.{Kind}
use Rattle.kinds.specs.declared.Kind.TheVariants.{Zero, One, Two, NoCode}
use Rattle.kinds.specs.Kinds.{leaf_code, unary_code, join_code, binary_code, leaf_within}

pub data Formula : Type 0 where
  leaf : Leaf → Formula
  one : Unary → Formula → Formula
  two : Binary → Formula → Formula → Formula

-- a constant
abbrev pub constant : Bool → Formula
constant v = leaf (Const v)

-- two formulas joined by and, or by or
abbrev pub join : Join → Formula → Formula → Formula
join j f g = two (Joined j) f g

-- the number of nodes
abbrev pub size : Formula → ℕ
size (leaf a) = 1
size (one o f) = 1 + size f
size (two o f g) = 1 + size f + size g

-- prefix order, one byte a node
abbrev pub encode : Formula → List ℕ
encode (leaf a) = leaf_code a ∷ []
encode (one o f) = unary_code o ∷ encode f
encode (two o f g) = binary_code o ∷ (encode f ++ encode g)

-- ---- equal formulas, as a test
unfoldable pub same_bool : Bool → Bool → Bool
same_bool true b = b
same_bool false true = false
same_bool false false = true

unfoldable pub same_leaf : Leaf → Leaf → Bool
same_leaf (Const v) (Const w) = same_bool v w
same_leaf (Const v) (Prop j) = false
same_leaf (Const v) (Hold l) = false
same_leaf (Prop i) (Const w) = false
same_leaf (Prop i) (Prop j) = eqb i j
same_leaf (Prop i) (Hold l) = false
same_leaf (Hold k) (Const w) = false
same_leaf (Hold k) (Prop j) = false
same_leaf (Hold k) (Hold l) = eqb k l

abbrev pub same_unary : Unary → Unary → Bool
same_unary o p = eqb (unary_code o) (unary_code p)

abbrev pub same_join : Join → Join → Bool
same_join j k = eqb (join_code j) (join_code k)

abbrev pub same_binary : Binary → Binary → Bool
same_binary o p = eqb (binary_code o) (binary_code p)

unfoldable pub same : Formula → Formula → Bool
same (leaf a) (leaf b) = same_leaf a b
same (leaf a) (one p g) = false
same (leaf a) (two p g h) = false
same (one o f) (leaf b) = false
same (one o f) (one p g) = both (same_unary o p) (same f g)
same (one o f) (two p g h) = false
same (two o f f') (leaf b) = false
same (two o f f') (one p g) = false
same (two o f f') (two p g g') = both (same_binary o p) (both (same f g) (same f' g'))

-- ---- which nodes a formula has
-- the numbers of its propositions are below p and those of its place holders below s
abbrev pub Within : ℕ → ℕ → Formula → Type 0
Within p s (leaf a) = leaf_within p s a
Within p s (one o f) = Within p s f
Within p s (two o f g) = Within p s f × Within p s g

-- every number has a code
abbrev pub Coded : Formula → Type 0
Coded f = Within propositions_most holder_codes f

-- the same as a test
unfoldable pub leaf_over : ℕ → ℕ → Leaf → Bool
leaf_over p s (Const v) = true
leaf_over p s (Prop i) = ltb i p
leaf_over p s (Hold k) = ltb k s

-- a node of this kind may stand in such a formula
abbrev pub node_over : ℕ → ℕ → Kind → Bool
node_over p s (Zero a) = leaf_over p s a
node_over p s (One o) = true
node_over p s (Two o) = true
node_over p s NoCode = false

unfoldable pub over : ℕ → ℕ → Formula → Bool
over p s (leaf a) = leaf_over p s a
over p s (one o f) = over p s f
over p s (two o f g) = both (over p s f) (over p s g)
