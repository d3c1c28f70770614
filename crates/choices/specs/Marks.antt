-- The mark of a node: how long the formula is that begins there, and which board its parts are chosen for. A node's parts are what
-- unfolding makes of it: the formula unfolded; of an until also what it asks of its left operand and of later ticks; and of every
-- temporal operator itself under next. Assumes nothing: these are definitions.
use Rattle.std.specs.Prelude.{◌≡◌, ℕ, ◌+◌, ◌*◌, ◌/◌, ◌%◌, List, [], get_or}
use Rattle.std.proofs.Math.Option.{Option}
use Rattle.kinds.specs.declared.Unary.TheVariants.{Next}
use Rattle.kinds.specs.declared.Join.TheVariants.{And}
use Rattle.kinds.specs.declared.Binary.TheVariants.{Until}
use Rattle.ltl.specs.Formula.{Formula, leaf, one, two, join, size, Within}
use Rattle.ltl.specs.Progression.{unfolded}
use Rattle.network.specs.Scores.{chosen}
use Rattle.nodes.specs.Begins.{Front}
use Rattle.scores.specs.Owned.{Owned}
use Rattle.scores.specs.Choice.{code_of}

-- ---- parts
-- what until asks of its left operand, and of later ticks
abbrev pub later_of : Formula → Formula → Formula
later_of f g = join And (unfolded f) (one Next (two Until f g))

-- ---- a mark as a number
-- how many lengths, and how many choices, a mark tells apart
abbrev pub length_room : ℕ
length_room = 32768

abbrev pub choice_room : ℕ
choice_room = 32

unfoldable pub mark_of : ℕ → ℕ → ℕ → ℕ → ℕ
mark_of n choice later again = n + length_room * (choice + choice_room * (later + choice_room * again))

unfoldable pub length_in : ℕ → ℕ
length_in mark = mark % length_room

-- the choice of the formula unfolded
unfoldable pub choice_in : ℕ → ℕ
choice_in mark = (mark / length_room) % choice_room

-- that of an until's `later_of`
unfoldable pub later_in : ℕ → ℕ
later_in mark = ((mark / length_room) / choice_room) % choice_room

-- that of the formula under next
unfoldable pub again_in : ℕ → ℕ
again_in mark = (((mark / length_room) / choice_room) / choice_room) % choice_room

-- ---- what a mark says of a formula
pub record MarkOf (choose : Formula → Option ℕ) (g : Formula) (mark : ℕ) : Type 0 where
  pub length-is : length_in mark ≡ size g
  pub choice-is : choice_in mark ≡ code_of (choose (unfolded g))
  pub later-is : (f h : Formula) → g ≡ two Until f h → later_in mark ≡ code_of (choose (later_of f h))
  pub again-is : again_in mark ≡ code_of (choose (one Next g))

-- every node of the formula that stands at a place has its mark
abbrev pub Marked : (Formula → Option ℕ) → List ℕ → ℕ → Formula → Type 0
Marked choose marks at (leaf a) = MarkOf choose (leaf a) (get_or marks at 0)
Marked choose marks at (one o f) = MarkOf choose (one o f) (get_or marks at 0) × Marked choose marks (at + 1) f
Marked choose marks at (two o f g) = MarkOf choose (two o f g) (get_or marks at 0) × Marked choose marks (at + 1) f × Marked choose marks (at + 1 + size f) g

-- the bytes s are one formula, and it is marked, by whatever masks the table of owners belongs to
abbrev pub Marks : List ℕ → List ℕ → List ℕ → Type 0
Marks owner s marks =
    (f : Formula) → Front s f [] → (p q : ℕ) (masks : List ℕ) → Owned p masks owner → Within p q f → Marked (chosen masks) marks 0 f
