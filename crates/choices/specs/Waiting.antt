-- The loop from the last node to the first: the parts that wait for their operator, one behind the other. Assumes nothing: these are
-- definitions.
use Rattle.std.specs.Prelude.{◌≡◌, ℕ, ◌+◌, ◌*◌, ◌≤◌, List, [], ◌∷◌, length, get_or}
use Rattle.limits.specs.Limits.{boards_most, nodes_room}
use Rattle.ltl.specs.Formula.{Formula, size, encode, Within, Coded}
use Rattle.network.specs.Scores.{chosen}
use Rattle.nodes.specs.Begins.{Front}
use Rattle.peeling.specs.Peeled.{peel, peeled}
use Rattle.scores.specs.Owned.{Table, Owned}
use Rattle.choices.specs.Marks.{Marked}
use Rattle.choices.specs.Over.{PartNoted}
use Rattle.choices.specs.Rows.{row_at}

-- a part that stands at a place: its rows of counts, and the marks of all its nodes, by whatever masks the table of owners belongs to
pub record PartWaits (owner : List ℕ) (g : Formula) (raws opens marks : List ℕ) (at : ℕ) : Type 0 where
  pub noted : PartNoted owner g raws opens (get_or marks at 0)
  pub marked : (p q : ℕ) (masks : List ℕ) → Owned p masks owner → Within p q g → Marked (chosen masks) marks at g

-- several, the first at a place, and its rows at t; their rows stand one behind the other
abbrev pub AllWait : List ℕ → List Formula → List ℕ → List ℕ → List ℕ → ℕ → ℕ → Type 0
AllWait owner [] raw opened marks t at = Unit {0}
AllWait owner (g ∷ gs) raw opened marks t at =
    PartWaits owner g (row_at t raw) (row_at t opened) marks at × AllWait owner gs raw opened marks (t + boards_most) (at + size g)

-- ---- a node whose operands are marked
-- g begins at i with the byte c; its operands, and then gs, wait
pub record MarkNodeAt (g : Formula) (gs : List Formula) (c i : ℕ) (owner marks raw opened : List ℕ) (t : ℕ) : Type 0 where
  pub byte : c ≡ get_or (encode g) 0 0
  pub coded : Coded g
  pub waits : AllWait owner (peel (g ∷ gs)) raw opened marks t (i + 1)

-- the rows of so many parts
abbrev pub rows_of : List Formula → ℕ
rows_of gs = boards_most * length gs

-- there is such a formula; its marks have room, and so have the rows of the parts that wait with it
pub record MarkNodeAsk (c i : ℕ) (owner marks raw opened : List ℕ) (t : ℕ) : Type 0 where
  pub g : Formula
  pub gs : List Formula
  pub at : MarkNodeAt g gs c i owner marks raw opened t
  pub table : Table owner
  pub inside : i + size g ≤ length marks
  pub few : length marks ≤ nodes_room
  pub raw-fits : t + rows_of (peel (g ∷ gs)) ≤ length raw
  pub opened-fits : t + rows_of (peel (g ∷ gs)) ≤ length opened
  pub low : rows_of (g ∷ gs) ≤ t + rows_of (peel (g ∷ gs))

-- whatever formula begins there, it waits then, and its rows are on top
abbrev pub MarksNode : ℕ → ℕ → List ℕ → List ℕ → List ℕ → List ℕ → ℕ → List ℕ → List ℕ → List ℕ → ℕ → Type 0
MarksNode c i owner marks raw opened t marks' raw' opened' u =
    (g : Formula) (gs : List Formula) → MarkNodeAt g gs c i owner marks raw opened t → i + size g ≤ length marks
    → AllWait owner (g ∷ gs) raw' opened' marks' u i × (u + rows_of (g ∷ gs) ≡ t + rows_of (peel (g ∷ gs)))

-- ---- the loop over the nodes s of the formula f
-- from i on the formulas wait, and their rows begin at t
pub record MarkedTo (f : Formula) (s owner marks raw opened : List ℕ) (i t : ℕ) : Type 0 where
  pub formula : Front s f []
  pub inside : i ≤ length s
  pub place : t + rows_of (peeled i (f ∷ [])) ≡ 8 * (length s + 1)
  pub waits : AllWait owner (peeled i (f ∷ [])) raw opened marks t i

-- ---- all of it: a formula, and room for its marks and for the rows of the parts that wait
pub record MarkAsk (s owner marks raw opened : List ℕ) : Type 0 where
  pub formula : Formula
  pub front : Front s formula []
  pub table : Table owner
  pub few : length s ≤ nodes_room
  pub beside : length marks ≡ length s
  pub raw-room : 8 * (length s + 1) ≤ length raw
  pub opened-room : 8 * (length s + 1) ≤ length opened
