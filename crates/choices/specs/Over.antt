-- A node on top of its operands: its mark and its rows of counts, from theirs. Assumes nothing: these are definitions.
use Rattle.std.specs.Prelude.{◌≡◌, ℕ, ◌+◌, ◌*◌, ◌<◌, ◌≤◌, List, length, get_or, drop}
use Rattle.limits.specs.Limits.{boards_most, nodes_room}
use Rattle.kinds.specs.declared.Unary.{Unary}
use Rattle.kinds.specs.declared.Binary.{Binary}
use Rattle.kinds.specs.declared.Binary.TheVariants.{Until}
use Rattle.ltl.specs.Formula.{Formula, one, two, size}
use Rattle.ltl.specs.Progression.{unfolded}
use Rattle.scores.specs.Scored.{one_scored, added}
use Rattle.scores.specs.Tallies.{ScoredAs}
use Rattle.choices.specs.Marks.{later_of, length_room, choice_room, mark_of, length_in, choice_in, later_in, again_in}
use Rattle.scores.specs.Choice.{picked_by}
use Rattle.choices.specs.Rows.{opened_below, row_at, PutsRow}

-- ---- a part: its counts as it stands and unfolded, and its mark, which has what they choose
pub record PartNoted (owner : List ℕ) (f : Formula) (raws opens : List ℕ) (mark : ℕ) : Type 0 where
  pub length-is : length_in mark ≡ size f
  pub raw-scored : ScoredAs owner f raws
  pub opened-scored : ScoredAs owner (unfolded f) opens
  pub choice-is : choice_in mark ≡ picked_by opens
  pub again-is : again_in mark ≡ picked_by raws
  pub later-is : (g h : Formula) → f ≡ two Until g h → (laters : List ℕ) × ScoredAs owner (later_of g h) laters × (later_in mark ≡ picked_by laters)

-- ---- no operand
-- both rows have one occurrence, of the owner
pub record OverNone (owner at : ℕ) (raw opened raw' opened' : List ℕ) (r : ℕ) : Type 0 where
  pub raw_row : PutsRow at (one_scored owner) raw raw'
  pub opened-row : PutsRow at (one_scored owner) opened opened'
  pub mark-is : r ≡ mark_of 1 owner boards_most owner

-- ---- one operand
-- counts that may be added
abbrev pub SmallRows : ℕ → List ℕ → List ℕ → Type 0
SmallRows at raw opened = (b : ℕ) → (get_or (row_at at raw) b 0 ≤ nodes_room) × (get_or (row_at at opened) b 0 < opened_below)

-- there is room for the operand's rows, and for a mark that has one node more
pub record OverOneAsk (m at : ℕ) (raw opened : List ℕ) : Type 0 where
  pub short : length_in m + 1 < length_room
  pub raw-fits : at + boards_most ≤ length raw
  pub opened-fits : at + boards_most ≤ length opened
  pub few : SmallRows at raw opened

-- its row unfolded is the operand's as it stands
pub record OverNext (m at : ℕ) (raw opened opened' : List ℕ) (r : ℕ) : Type 0 where
  pub row : PutsRow at (row_at at raw) opened opened'
  pub mark-is : r ≡ mark_of (1 + length_in m) (again_in m) boards_most (again_in m)

-- both rows of the operand are added
pub record OverEver (m at : ℕ) (raw opened opened' : List ℕ) (r : ℕ) : Type 0 where
  pub row : PutsRow at (added (row_at at opened) (row_at at raw)) opened opened'
  pub length-is : length_in r ≡ 1 + length_in m
  pub choice-is : choice_in m ≡ picked_by (row_at at opened) → again_in m ≡ picked_by (row_at at raw) → choice_in r ≡ picked_by (added (row_at at opened) (row_at at raw))
  pub again-is : again_in r ≡ again_in m

-- what stood for the operand stands for the node, and the rows behind stay
pub record OverOne (o : Unary) (m at : ℕ) (raw opened opened' : List ℕ) (r : ℕ) : Type 0 where
  pub others : drop (at + boards_most) opened' ≡ drop (at + boards_most) opened
  pub means : (owner : List ℕ) (f : Formula) → PartNoted owner f (row_at at raw) (row_at at opened) m → PartNoted owner (one o f) (row_at at raw) (row_at at opened') r

-- ---- two operands, whose rows stand one behind the other
-- a length and choices that fit into a mark, and room for both rows unfolded
pub record OverJoinAsk (n a b again at : ℕ) (opened : List ℕ) : Type 0 where
  pub short : n < length_room
  pub left-choice : a < choice_room
  pub right-choice : b < choice_room
  pub again-choice : again < choice_room
  pub fits : at + boards_most + boards_most ≤ length opened
  pub few : (c : ℕ) → (get_or (row_at at opened) c 0 < opened_below) × (get_or (row_at (at + boards_most) opened) c 0 < opened_below)

-- both rows are added, and put where the second was
pub record OverJoin (n a b again at : ℕ) (opened opened' : List ℕ) (r : ℕ) : Type 0 where
  pub row : PutsRow (at + boards_most) (added (row_at at opened) (row_at (at + boards_most) opened)) opened opened'
  pub length-is : length_in r ≡ n
  pub choice-is : a ≡ picked_by (row_at at opened) → b ≡ picked_by (row_at (at + boards_most) opened) → choice_in r ≡ picked_by (added (row_at at opened) (row_at (at + boards_most) opened))
  pub again-is : again_in r ≡ again

-- the same, with the counts of the until as it stands
pub record OverUntilAsk (n a b again : ℕ) (copy : List ℕ) (at : ℕ) (opened : List ℕ) : Type 0 where
  pub pair : OverJoinAsk n a b again at opened
  pub long : length copy ≡ boards_most
  pub copy-few : (c : ℕ) → get_or copy c 0 ≤ 2 * nodes_room

-- the copy is added to the left operand, and both to the right one
pub record OverUntil (n a b again : ℕ) (copy : List ℕ) (at : ℕ) (opened opened' : List ℕ) (r : ℕ) : Type 0 where
  pub row : PutsRow (at + boards_most) (added (row_at (at + boards_most) opened) (added (row_at at opened) copy)) opened opened'
  pub length-is : length_in r ≡ n
  pub later-is : a ≡ picked_by (row_at at opened) → again ≡ picked_by copy → later_in r ≡ picked_by (added (row_at at opened) copy)
  pub choice-is : a ≡ picked_by (row_at at opened) → again ≡ picked_by copy → b ≡ picked_by (row_at (at + boards_most) opened)
      → choice_in r ≡ picked_by (added (row_at (at + boards_most) opened) (added (row_at at opened) copy))
  pub again-is : again_in r ≡ again

-- there is room for the rows of both operands, and for a mark that has the nodes of both and one more
pub record OverTwoAsk (l r at : ℕ) (raw opened : List ℕ) : Type 0 where
  pub short : length_in l + length_in r + 1 < length_room
  pub raw-fits : at + boards_most + boards_most ≤ length raw
  pub opened-fits : at + boards_most + boards_most ≤ length opened
  pub left-few : SmallRows at raw opened
  pub right-few : SmallRows (at + boards_most) raw opened

-- what stood for the operands stands for the node, and the rows behind stay
pub record OverTwo (o : Binary) (l r at : ℕ) (raw opened raw' opened' : List ℕ) (x : ℕ) : Type 0 where
  pub raw-others : drop (at + boards_most + boards_most) raw' ≡ drop (at + boards_most + boards_most) raw
  pub opened-others : drop (at + boards_most + boards_most) opened' ≡ drop (at + boards_most + boards_most) opened
  pub means : (owner : List ℕ) (f g : Formula) → PartNoted owner f (row_at at raw) (row_at at opened) l → PartNoted owner g (row_at (at + boards_most) raw) (row_at (at + boards_most) opened) r
      → PartNoted owner (two o f g) (row_at (at + boards_most) raw') (row_at (at + boards_most) opened') x
