-- The cuts of a part: how many slots are cut out of it where it is laid on a board, those of held slots apart. Assumes nothing:
-- these are definitions.
use Rattle.std.specs.Prelude.{◌≡◌, ℕ, ◌+◌, ◌<◌, ◌^◌, List, ◌⊎◌, get_or, eqb}
use Rattle.std.proofs.Math.Option.{Option, none, some}
use Rattle.lists.specs.Tests.{pick}
use Rattle.kinds.specs.declared.Unary.TheVariants.{Not, Next, Ever}
use Rattle.kinds.specs.declared.Unary.{Unary}
use Rattle.kinds.specs.declared.Binary.{Binary}
use Rattle.kinds.specs.declared.Binary.TheVariants.{Joined, Until}
use Rattle.limits.specs.Limits.{boards_most, nodes_room}
use Rattle.ltl.specs.Formula.{Formula, leaf, one, two, size, Within}
use Rattle.ltl.specs.Progression.{unfolded}
use Rattle.network.specs.Scores.{chosen}
use Rattle.nodes.specs.Begins.{Front}
use Rattle.scores.specs.Choice.{picked_by, stays_on}
use Rattle.scores.specs.Scored.{one_scored, added, counts_below}
use Rattle.scores.specs.Owned.{Owned}
use Rattle.scores.specs.Tallies.{ScoredAs}
use Rattle.cutting.specs.declared.LaidPart.{LaidPart}
use Rattle.cutting.specs.declared.CutWalk.{CutWalk}

-- an operand of a slot on board b is looked at: what it gives where it stays there, and what it gives where it is cut to board c
unfoldable pub looked_as : Option ℕ → ℕ → (ℕ → ℕ) → (ℕ → ℕ) → ℕ
looked_as none b stays cut = stays b
looked_as (some c) b stays cut = pick (eqb c b) (stays b) (cut c)

-- the slots that are cut out of a part on board b
unfoldable pub cuts_on : (Formula → Option ℕ) → Formula → ℕ → ℕ
cuts_on choose (leaf a) b = 0
cuts_on choose (one Not f) b = looked_as (choose f) b (cuts_on choose f) (λ c. 1 + cuts_on choose f c)
cuts_on choose (one Next f) b = 0
cuts_on choose (one (Ever j) f) b = 0
cuts_on choose (two (Joined j) f g) b =
    looked_as (choose f) b (cuts_on choose f) (λ c. 1 + cuts_on choose f c) + looked_as (choose g) b (cuts_on choose g) (λ c. 1 + cuts_on choose g c)
cuts_on choose (two Until f g) b = 0

-- ---- boards as numbers
-- the board that a part is laid on: the one given or, where none is given, its own choice
unfoldable pub place_by : ℕ → ℕ → ℕ
place_by on choice = pick (eqb on boards_most) choice on

abbrev pub place_of : ℕ → List ℕ → ℕ
place_of on counts = place_by on (picked_by counts)

-- 1 where it is cut
unfoldable pub cut_by : ℕ → ℕ → ℕ
cut_by choice board = pick (stays_on choice board) 0 1

-- a part may stay on a board: it has no choice, or that one
abbrev pub Rests : (Formula → Option ℕ) → Formula → ℕ → Type 0
Rests choose f b = (choose f ≡ none) ⊎ (choose f ≡ some b)

-- the board b is the one given or, where none is given, one that the part may stay on
abbrev pub Lies : (Formula → Option ℕ) → Formula → ℕ → ℕ → Type 0
Lies choose f on b = ((on ≡ boards_most) × Rests choose f b) ⊎ ((on ≡ b) × (b < boards_most))

-- ---- what is counted
-- a part's scores, their choice and its cuts, by whatever masks the table of owners belongs to
pub record Parted (owner : List ℕ) (g : Formula) (on : ℕ) (x : LaidPart) : Type 0 where
  pub scored : ScoredAs owner g x.scores.counts
  pub choice-is : x.choice ≡ picked_by x.scores.counts
  pub few : x.cuts < size g
  pub cuts_are : (p q : ℕ) (masks : List ℕ) → Owned p masks owner → Within p q g → (b : ℕ) → Lies (chosen masks) g on b → x.cuts ≡ cuts_on (chosen masks) g b

-- a formula was walked over
pub record Walked (owner : List ℕ) (f : Formula) (on : ℕ) (r : CutWalk) : Type 0 where
  pub reads : r.read ≡ size f
  pub raw : ScoredAs owner f r.raw.counts
  pub parted : Parted owner (unfolded f) on r.part

abbrev pub Cutting : List ℕ → List ℕ → ℕ → CutWalk → Type 0
Cutting owner s on r = (f : Formula) (rest : List ℕ) → Front s f rest → Walked owner f on r

-- a part of these counts, out of which nothing is cut
abbrev pub Bare : LaidPart → List ℕ → Type 0
Bare x counts = (x.scores.counts ≡ counts) × (x.choice ≡ picked_by counts) × (x.cuts ≡ 0)

-- ---- two parts under a join
-- their sums are no overflow
pub record Joinable (a b : LaidPart) : Type 0 where
  pub scores : (i : ℕ) → get_or a.scores.counts i 0 + get_or b.scores.counts i 0 < counts_below
  pub cuts : a.cuts + b.cuts + 2 < 2 ^ 64

-- the cuts of a part that is looked at by a slot on the board
abbrev pub looked_cuts : LaidPart → ℕ → ℕ
looked_cuts a board = a.cuts + cut_by a.choice board

pub record Joins (a b : LaidPart) (on : ℕ) (r : LaidPart) : Type 0 where
  pub scores : r.scores.counts ≡ added a.scores.counts b.scores.counts
  pub choice-is : r.choice ≡ picked_by r.scores.counts
  pub cuts : r.cuts ≡ looked_cuts a (place_of on r.scores.counts) + looked_cuts b (place_of on r.scores.counts)

-- ---- a node on top of its operands
-- a node without operands, of this owner
abbrev pub OverNone : ℕ → CutWalk → Type 0
OverNone owner r = (r.read ≡ 1) × (r.raw.counts ≡ one_scored owner) × Bare r.part r.raw.counts

-- an operand of a formula that is not too large
pub record Countable (a : CutWalk) : Type 0 where
  pub owner : List ℕ
  pub formula : Formula
  pub walked : Walked owner formula boards_most a
  pub small : size formula < nodes_room

abbrev pub OverOne : Unary → CutWalk → ℕ → CutWalk → Type 0
OverOne o a on r = (owner : List ℕ) (f : Formula) → Walked owner f boards_most a → Walked owner (one o f) on r

pub record Pairable (a c : CutWalk) : Type 0 where
  pub owner : List ℕ
  pub left : Formula
  pub right : Formula
  pub walked-left : Walked owner left boards_most a
  pub walked-right : Walked owner right boards_most c
  pub small : size left + size right < nodes_room

abbrev pub OverTwo : Binary → CutWalk → CutWalk → ℕ → CutWalk → Type 0
OverTwo o a c on r =
    (owner : List ℕ) (f g : Formula) → Walked owner f boards_most a → Walked owner g boards_most c → Walked owner (two o f g) on r
