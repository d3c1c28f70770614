-- Same question, one slot. A slot as a tree: a board, and a formula in which a slot stands for each place holder. Slots on one board
-- with equal nodes, once those that they hold have become one, are slots with equal trees; so no order of merging enters. Assumes
-- nothing: these are definitions.
use Rattle.std.specs.Prelude.{ℕ, zero, suc, ◌+◌, max, Bool, true, false, not, List, [], ◌∷◌, ◌++◌, map, length, eqb}
use Rattle.std.proofs.Math.Option.{Option}
use Rattle.lists.specs.Tests.{pick, both}
use Rattle.kinds.specs.declared.Leaf.TheVariants.{Const, Prop, Hold}
use Rattle.kinds.specs.declared.Unary.TheVariants.{Not, Next, Ever}
use Rattle.kinds.specs.declared.Join.{Join}
use Rattle.kinds.specs.declared.Binary.TheVariants.{Joined, Until}
use Rattle.ltl.specs.Formula.{Formula, leaf, one, two, join, same, same_join}
use Rattle.network.specs.Layout.{Slot, slot_at, load, close}

-- a formula in which slots stand for place holders; `stays` is a leaf, or a node below which nothing is cut
pub data Tree : Type 0 where
  stays : Formula → Tree
  negation : Tree → Tree
  pair : Join → Tree → Tree → Tree
  slot : ℕ → Tree → Tree

-- ---- the tree of a network
-- the formula, with the slots that its place holders stand for
abbrev pub grown : (ℕ → Tree) → Formula → Tree
grown held (leaf (Const v)) = stays (leaf (Const v))
grown held (leaf (Prop i)) = stays (leaf (Prop i))
grown held (leaf (Hold m)) = held m
grown held (one Not f) = negation (grown held f)
grown held (one Next f) = stays (one Next f)
grown held (one (Ever j) f) = stays (one (Ever j) f)
grown held (two (Joined j) f g) = pair j (grown held f) (grown held g)
grown held (two Until f g) = stays (two Until f g)

-- a slot on board b; one that only passes another's answer on is left out
abbrev pub slot_on : ℕ → Tree → Tree
slot_on b (stays f) = slot b (stays f)
slot_on b (negation t) = slot b (negation t)
slot_on b (pair j t t') = slot b (pair j t t')
slot_on b (slot c t) = slot c t

-- slot m of a network, in which no more than `most` are held one below the other
unfoldable pub tree_at : List Slot → ℕ → ℕ → Tree
tree_at slots zero m = stays (leaf (Hold m))
tree_at slots (suc most) m = slot_on (slot_at slots m).board (grown (tree_at slots most) (slot_at slots m).formula)

-- ---- equal trees, as a test
unfoldable pub same_tree : Tree → Tree → Bool
same_tree (stays f) (stays g) = same f g
same_tree (stays f) (negation u) = false
same_tree (stays f) (pair k u u') = false
same_tree (stays f) (slot c u) = false
same_tree (negation t) (stays g) = false
same_tree (negation t) (negation u) = same_tree t u
same_tree (negation t) (pair k u u') = false
same_tree (negation t) (slot c u) = false
same_tree (pair j t t') (stays g) = false
same_tree (pair j t t') (negation u) = false
same_tree (pair j t t') (pair k u u') = both (same_join j k) (both (same_tree t u) (same_tree t' u'))
same_tree (pair j t t') (slot c u) = false
same_tree (slot b t) (stays g) = false
same_tree (slot b t) (negation u) = false
same_tree (slot b t) (pair k u u') = false
same_tree (slot b t) (slot c u) = both (eqb b c) (same_tree t u)

-- ---- numbers
-- a slot as it is met, and the number of its holders on the way from the root
pub record Met : Type 0 where
  pub chain : ℕ
  pub board : ℕ
  pub body : Tree

-- the slots in a tree as they are met, a slot's descendants before its next sibling, with n holders above
abbrev pub met : ℕ → Tree → List Met
met n (stays f) = []
met n (negation t) = met n t
met n (pair j t t') = met n t ++ met n t'
met n (slot b t) = record { chain = n; board = b; body = t } ∷ met (n + 1) t

-- the slot on board b with this body is the one met
unfoldable pub is_slot : ℕ → Tree → Met → Bool
is_slot b t m = both (eqb b m.board) (same_tree t m.body)

-- the longest chain of holders by which a slot is met
unfoldable pub longest : ℕ → Tree → List Met → ℕ
longest b t [] = 0
longest b t (m ∷ ms) = max (pick (is_slot b t m) m.chain 0) (longest b t ms)

-- a slot is among those met
unfoldable pub is_in : ℕ → Tree → List Met → Bool
is_in b t [] = false
is_in b t (m ∷ ms) = pick (is_slot b t m) true (is_in b t ms)

-- each slot once, where it is first met; `seen` were met before
unfoldable pub firsts : List Met → List Met → List Met
firsts seen [] = []
firsts seen (m ∷ ms) = pick (is_in m.board m.body seen) (firsts seen ms) (m ∷ firsts (m ∷ seen) ms)

-- those whose longest chain is n
unfoldable pub level : List Met → ℕ → List Met → List Met
level all n [] = []
level all n (m ∷ ms) = pick (eqb (longest m.board m.body all) n) (m ∷ level all n ms) (level all n ms)

-- those with n holders, then those with n + 1, and so on
unfoldable pub levels : List Met → List Met → ℕ → ℕ → List Met
levels all ms n zero = []
levels all ms n (suc more) = level all n ms ++ levels all ms (n + 1) more

-- the slots below a root, in the order of their numbers: by the longest chain of holders from the root, then by first meeting
unfoldable pub ordered : Tree → List Met
ordered t = levels (met 1 t) (firsts [] (met 1 t)) 1 (length (met 1 t))

-- a slot's place in the row
unfoldable pub place : ℕ → Tree → List Met → ℕ
place b t [] = 0
place b t (m ∷ ms) = pick (is_slot b t m) 0 (suc (place b t ms))

-- what stands in a slot, with a place holder for each slot in it; the root is slot 0
abbrev pub shown : List Met → Tree → Formula
shown row (stays f) = f
shown row (negation t) = one Not (shown row t)
shown row (pair j t t') = join j (shown row t) (shown row t')
shown row (slot b t) = leaf (Hold (suc (place b t row)))

abbrev pub slot_of : List Met → Met → Slot
slot_of row m = record { board = m.board; formula = shown row m.body }

-- a root, whatever stands in it, and all that hangs on it
unfoldable pub numbered : ℕ → Tree → List Slot
numbered b t = record { board = b; formula = shown (ordered t) t } ∷ map (slot_of (ordered t)) (ordered t)

-- ---- a network merged
unfoldable pub merged : List Slot → List Slot
merged slots = numbered (slot_at slots 0).board (grown (tree_at slots (length slots)) (slot_at slots 0).formula)

-- the two layouts
abbrev pub merged_load : (Formula → Option ℕ) → Formula → List Slot
merged_load choose rule = merged (load choose rule)

abbrev pub merged_close : (Formula → Option ℕ) → List Slot → List Slot
merged_close choose slots = merged (close choose slots)
