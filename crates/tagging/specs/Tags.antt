-- A formula's tags: the board of each operand, and its length in a slot there. Assumes nothing: these are definitions.
use Rattle.std.specs.Prelude.{◌≡◌, ℕ, ◌+◌, ◌<◌, ◌≤◌, List, get_or, drop, set, eqb}
use Rattle.std.proofs.Math.Option.{Option}
use Rattle.lists.specs.Tests.{pick}
use Rattle.kinds.specs.declared.Unary.TheVariants.{Not, Next, Ever}
use Rattle.kinds.specs.declared.Binary.TheVariants.{Joined, Until}
use Rattle.limits.specs.Limits.{boards_most, nodes_room}
use Rattle.ltl.specs.Formula.{Formula, leaf, one, two, size, Within}
use Rattle.network.specs.Scores.{chosen}
use Rattle.nodes.specs.Begins.{Front}
use Rattle.scores.specs.declared.Scores.{Scores}
use Rattle.scores.specs.Scored.{added, counts_below}
use Rattle.scores.specs.Owned.{Owned}
use Rattle.scores.specs.Tallies.{ScoredAs}
use Rattle.scores.specs.Choice.{code_of, picked_by, stays_on}
use Rattle.cutting.specs.Cuts.{looked_as, place_of, Lies}
use Rattle.tagging.specs.declared.TaggedPart.{TaggedPart}
use Rattle.tagging.specs.Packed.{length_room, board_in, here_in, tag_of}

-- ---- what a formula's tags are
-- the length of a part in a slot on board b: an operand that is cut is one place holder
unfoldable pub here_on : (Formula → Option ℕ) → Formula → ℕ → ℕ
here_on choose (leaf a) b = 1
here_on choose (one Not f) b = 1 + looked_as (choose f) b (here_on choose f) (λ c. 1)
here_on choose (one Next f) b = 1 + size f
here_on choose (one (Ever j) f) b = 1 + size f
here_on choose (two (Joined j) f g) b = 1 + looked_as (choose f) b (here_on choose f) (λ c. 1) + looked_as (choose g) b (here_on choose g) (λ c. 1)
here_on choose (two Until f g) b = 1 + size f + size g

-- the tag of a part: the board given or else its choice, and its length there
pub record Tags (choose : Formula → Option ℕ) (f : Formula) (on : ℕ) (tag : ℕ) : Type 0 where
  pub board-is : board_in tag ≡ pick (eqb on boards_most) (code_of (choose f)) on
  pub here-is : (b : ℕ) → Lies choose f on b → here_in tag ≡ here_on choose f b

-- every operand outside next has its tag at its place
abbrev pub Tagged : (Formula → Option ℕ) → Formula → List ℕ → Type 0
Tagged choose (leaf a) tags = Unit {0}
Tagged choose (one Not f) tags = Tags choose f boards_most (get_or (drop 1 tags) 0 0) × Tagged choose f (drop 1 tags)
Tagged choose (one Next f) tags = Unit {0}
Tagged choose (one (Ever j) f) tags = Unit {0}
Tagged choose (two (Joined j) f g) tags =
    (Tags choose f boards_most (get_or (drop 1 tags) 0 0) × Tagged choose f (drop 1 tags))
    × (Tags choose g boards_most (get_or (drop (1 + size f) tags) 0 0) × Tagged choose g (drop (1 + size f) tags))
Tagged choose (two Until f g) tags = Unit {0}

-- ---- what the walk gives
pub record TaggedAs (owner : List ℕ) (f : Formula) (on : ℕ) (tags : List ℕ) (r : TaggedPart) : Type 0 where
  pub reads : r.read ≡ size f
  pub scored : ScoredAs owner f r.scores.counts
  pub board-is : r.board ≡ place_of on r.scores.counts
  pub few : r.here ≤ size f
  pub small : r.here < length_room
  pub here-is : (p q : ℕ) (masks : List ℕ) → Owned p masks owner → Within p q f → (b : ℕ) → Lies (chosen masks) f on b → r.here ≡ here_on (chosen masks) f b
  pub tag_is : get_or tags 0 0 ≡ tag_of r.here r.board
  pub tagged : (p q : ℕ) (masks : List ℕ) → Owned p masks owner → Within p q f → Tagged (chosen masks) f tags

abbrev pub Tagging : List ℕ → List ℕ → ℕ → List ℕ → TaggedPart → Type 0
Tagging owner u on tags r = (f : Formula) (rest : List ℕ) → Front u f rest → TaggedAs owner f on tags r

-- ---- the parts of the walk
-- the length of an operand in a slot on the board
unfoldable pub shown_as : ℕ → ℕ → ℕ → ℕ
shown_as choice here board = pick (stays_on choice board) here 1

pub record Seals (read : ℕ) (scores : Scores) (board here : ℕ) (tags tags' : List ℕ) (r : TaggedPart) : Type 0 where
  pub result : r ≡ record { read = read; scores = scores; board = board; here = here }
  pub writes : tags' ≡ set tags 0 (tag_of here board)

-- a part that was read, and that is no longer in its slot than it is
pub record Showable (a : TaggedPart) : Type 0 where
  pub some : 0 < a.read
  pub few : a.here ≤ a.read

-- a part that was tagged on its own choice, with room for a node in front of it
pub record NotAsk (a : TaggedPart) : Type 0 where
  pub board-is : a.board ≡ picked_by a.scores.counts
  pub part : Showable a
  pub reads : a.read < nodes_room

-- two parts, with room for a node in front of them
pub record PairAsk (a c : TaggedPart) : Type 0 where
  pub scores : (i : ℕ) → get_or a.scores.counts i 0 + get_or c.scores.counts i 0 < counts_below
  pub left : Showable a
  pub right : Showable c
  pub reads : a.read + c.read < nodes_room

-- a tag on top of others
pub record TagOver (read : ℕ) (counts : List ℕ) (on : ℕ) (here : ℕ → ℕ) (tags tags' : List ℕ) (r : TaggedPart) : Type 0 where
  pub reads : r.read ≡ read
  pub scores : r.scores.counts ≡ counts
  pub board-is : r.board ≡ place_of on counts
  pub here-is : r.here ≡ here (place_of on counts)
  pub writes : tags' ≡ set tags 0 (tag_of r.here r.board)

abbrev pub OverNot : TaggedPart → ℕ → List ℕ → List ℕ → TaggedPart → Type 0
OverNot a on = TagOver (1 + a.read) a.scores.counts on (λ b. 1 + shown_as a.board a.here b)

abbrev pub OverPair : TaggedPart → TaggedPart → ℕ → List ℕ → List ℕ → TaggedPart → Type 0
OverPair a c on = TagOver (1 + a.read + c.read) (added a.scores.counts c.scores.counts) on (λ b. 1 + shown_as a.board a.here b + shown_as c.board c.here b)

-- a part that stays whole
abbrev pub Whole : List ℕ → List ℕ → ℕ → List ℕ → List ℕ → TaggedPart → Type 0
Whole owner u on tags tags' r =
    (f : Formula) (rest : List ℕ) → Front u f rest → ScoredAs owner f r.scores.counts × TagOver (size f) r.scores.counts on (λ b. size f) tags tags' r
