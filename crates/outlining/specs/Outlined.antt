-- The outline of formula bytes: which parts stay whole when the formula is resolved. Assumes nothing: these are definitions.
use Rattle.std.specs.Prelude.{◌≡◌, Bool, true, false, List, [], ℕ, suc, ◌+◌, ◌≤◌, length, get_or, take, drop}
use Rattle.limits.specs.Limits.{nodes_room}
use Rattle.kinds.specs.declared.Kind.{Kind}
use Rattle.kinds.specs.declared.Kind.TheVariants.{Zero, One, Two, NoCode}
use Rattle.kinds.specs.declared.Unary.TheVariants.{Not, Next, Ever}
use Rattle.kinds.specs.declared.Binary.TheVariants.{Joined, Until}
use Rattle.kinds.specs.Kinds.{kind_of}
use Rattle.ltl.specs.Formula.{Formula, leaf, one, two, size, encode, Coded}
use Rattle.nodes.specs.Begins.{Front}

-- the most nodes of a small formula
abbrev pub small_nodes : ℕ
small_nodes = 128

-- a node of this kind stays as it stands: next, whose operand does, and the temporal operators
abbrev pub whole_kind : Kind → Bool
whole_kind (Zero a) = false
whole_kind (One Not) = false
whole_kind (One Next) = true
whole_kind (One (Ever j)) = true
whole_kind (Two (Joined j)) = false
whole_kind (Two Until) = true
whole_kind NoCode = false

-- the kind of a formula's first node
abbrev pub top_kind : Formula → Kind
top_kind (leaf a) = Zero a
top_kind (one o f) = One o
top_kind (two o f g) = Two o

-- up to a place: a byte outside the parts that stay whole has the note 0, and such a part has its length noted beside its last byte
pub data Outlined (s notes : List ℕ) : ℕ → Type 0 where
  start : Outlined s notes 0
  plain : {i e : ℕ} → Outlined s notes i → e ≡ suc i → whole_kind (kind_of (get_or s i 0)) ≡ false → get_or notes i 0 ≡ 0 → Outlined s notes e
  whole : {i e l : ℕ} → Outlined s notes i → (h : Formula) → Coded h → whole_kind (top_kind h) ≡ true → take (size h) (drop i s) ≡ encode h
      → e ≡ i + size h → e ≡ suc l → get_or notes l 0 ≡ size h → Outlined s notes e

-- the bytes are one formula, with room for a note beside each
pub record Outlinable (s notes : List ℕ) : Type 0 where
  pub formula : Formula
  pub front : Front s formula []
  pub room : length s ≤ length notes
  pub few : length s ≤ nodes_room

abbrev pub Outlines : List ℕ → List ℕ → Type 0
Outlines s notes = Outlined s notes (length s)
