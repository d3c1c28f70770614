-- The parts of nodes, as numbers: a place of the bytes, and which part of the node there. What is still to be looked at while a slot's
-- tokens are written is a list of such numbers. Assumes nothing: these are definitions.
use Rattle.std.specs.Prelude.{◌≡◌, ℕ, ◌+◌, ◌*◌, ◌<◌, List, [], ◌∷◌, drop}
use Rattle.std.proofs.Math.Option.{Option}
use Rattle.kinds.specs.declared.Unary.TheVariants.{Next}
use Rattle.kinds.specs.declared.Binary.TheVariants.{Until}
use Rattle.ltl.specs.Formula.{Formula, one, two}
use Rattle.ltl.specs.Progression.{unfolded}
use Rattle.nodes.specs.Begins.{Front}
use Rattle.scores.specs.Choice.{code_of}
use Rattle.choices.specs.Marks.{Marked, later_of}

-- how many parts of a node are told apart
abbrev pub parts_room : ℕ
parts_room = 4

-- the part's number at a place: the node unfolded, what an until asks of its left operand and of later ticks, and the node under next
abbrev pub node_code : ℕ → ℕ
node_code at = at * parts_room

abbrev pub later_code : ℕ → ℕ
later_code at = at * parts_room + 1

abbrev pub again_code : ℕ → ℕ
again_code at = at * parts_room + 2

-- a formula stands at a place, and is marked
pub record NodeMarked (choose : Formula → Option ℕ) (bytes marks : List ℕ) (at : ℕ) (g : Formula) : Type 0 where
  pub rest : List ℕ
  pub front : Front (drop at bytes) g rest
  pub marked : Marked choose marks at g

-- the part of this number is the formula
pub data PartAt (choose : Formula → Option ℕ) (bytes marks : List ℕ) (part : ℕ) (f : Formula) : Type 0 where
  part-node : (at : ℕ) (g : Formula) → NodeMarked choose bytes marks at g → part ≡ node_code at → f ≡ unfolded g → PartAt choose bytes marks part f
  part-later : (at : ℕ) (g h : Formula) → NodeMarked choose bytes marks at (two Until g h) → part ≡ later_code at → f ≡ later_of g h → PartAt choose bytes marks part f
  part-again : (at : ℕ) (g : Formula) → NodeMarked choose bytes marks at g → part ≡ again_code at → f ≡ one Next g → PartAt choose bytes marks part f

-- the parts of these numbers are the formulas, and stand behind the part n
abbrev pub PartsAt : (Formula → Option ℕ) → List ℕ → List ℕ → ℕ → List ℕ → List Formula → Type 0
PartsAt choose bytes marks n [] [] = Unit {0}
PartsAt choose bytes marks n [] (f ∷ fs) = ⊥
PartsAt choose bytes marks n (p ∷ ps) [] = ⊥
PartsAt choose bytes marks n (p ∷ ps) (f ∷ fs) = PartAt choose bytes marks p f × (n < p) × PartsAt choose bytes marks n ps fs

-- the board that a part is chosen for
abbrev pub ChosenFor : List ℕ → ℕ → ℕ → Type 0
ChosenFor marks part choice = (choose : Formula → Option ℕ) (bytes : List ℕ) (f : Formula) → PartAt choose bytes marks part f → choice ≡ code_of (choose f)
