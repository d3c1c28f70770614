-- The top of a part that stays in a slot: one token is written, and its operands are left to be looked at. `TopAsk` and `TopsPart` are
-- what the top of a part asks and promises, `SmallTop` and `PutsTop` what writing it does. Assumes nothing: these are definitions.
use Rattle.std.specs.Prelude.{◌≡◌, ℕ, zero, suc, ◌+◌, ◌/◌, ◌<◌, ◌≤◌, Bool, List, [], ◌∷◌, ◌++◌, length, get_or, take, drop}
use Rattle.std.proofs.Math.Option.{Option}
use Rattle.kinds.specs.Kinds.{leaf_code, unary_code, join_code}
use Rattle.kinds.specs.declared.Leaf.TheVariants.{Const, Prop, Hold}
use Rattle.kinds.specs.declared.Leaf.{Leaf}
use Rattle.kinds.specs.declared.Unary.{Unary}
use Rattle.kinds.specs.declared.Unary.TheVariants.{Not, Next, Ever}
use Rattle.kinds.specs.declared.Join.{Join}
use Rattle.kinds.specs.declared.Join.TheVariants.{Or}
use Rattle.kinds.specs.declared.Binary.{Binary}
use Rattle.kinds.specs.declared.Binary.TheVariants.{Joined, Until}
use Rattle.limits.specs.Limits.{nodes_room, slots_room}
use Rattle.ltl.specs.Formula.{Formula, leaf, one, join, size}
use Rattle.tokens.specs.Tokens.{text_code, TextAt}
use Rattle.parting.specs.declared.PartTop.{PartTop}
use Rattle.parting.specs.Parts.{parts_room, node_code, later_code, again_code, PartAt, PartsAt}

-- the first token of a formula, how many nodes it stands for, and the operands behind it; place holders by the entries that `held` gives
pub data TopOf (bytes marks : List ℕ) (held : ℕ → ℕ) : Formula → ℕ → ℕ → List Formula → Type 0 where
  top-constant : (v : Bool) → TopOf bytes marks held (leaf (Const v)) (leaf_code (Const v)) 1 []
  top-proposition : (i : ℕ) → TopOf bytes marks held (leaf (Prop i)) (leaf_code (Prop i)) 1 []
  top-hold : (m : ℕ) → TopOf bytes marks held (leaf (Hold m)) (leaf_code (Hold (held m))) 1 []
  top-not : (f : Formula) → TopOf bytes marks held (one Not f) (unary_code Not) 1 (f ∷ [])
  top-next : (f : Formula) (at : ℕ) → TextAt bytes marks at f → TopOf bytes marks held (one Next f) (text_code + at) (1 + size f) []
  top-join : (j : Join) (f g : Formula) → TopOf bytes marks held (join j f g) (join_code j) 1 (f ∷ (g ∷ []))

-- the entry of each held slot, as code and laws have it
abbrev pub HeldBy : (ℕ → ℕ) → List ℕ → Type 0
HeldBy held table = (m : ℕ) → held m ≡ get_or table m 0

-- ---- tops as numbers
-- a token without operands
abbrev pub alone_top : ℕ → PartTop
alone_top token = record { token = token; nodes = 1; operands = 0; left = 0; right = 0 }

-- a token with one operand
abbrev pub over_top : ℕ → ℕ → PartTop
over_top token operand = record { token = token; nodes = 1; operands = 1; left = operand; right = 0 }

-- a token with two operands
abbrev pub between_top : ℕ → ℕ → ℕ → PartTop
between_top token left right = record { token = token; nodes = 1; operands = 2; left = left; right = right }

-- the text of n nodes at a place, under next
abbrev pub text_top : ℕ → ℕ → PartTop
text_top at n = record { token = text_code + at; nodes = 1 + n; operands = 0; left = 0; right = 0 }

-- a node with one operand, which has n nodes
abbrev pub single_top : Unary → ℕ → ℕ → PartTop
single_top Not at n = over_top (unary_code Not) (node_code (at + 1))
single_top Next at n = text_top (at + 1) n
single_top (Ever j) at n = between_top (join_code j) (node_code (at + 1)) (again_code at)

-- a node with two operands, of which the left one has n nodes
abbrev pub pair_top : Binary → ℕ → ℕ → PartTop
pair_top (Joined j) at n = between_top (join_code j) (node_code (at + 1)) (node_code (at + 1 + n))
pair_top Until at n = between_top (join_code Or) (node_code (at + 1 + n)) (later_code at)

-- a leaf, a place holder by the entry of its slot
abbrev pub held_leaf : List ℕ → Leaf → Leaf
held_leaf table (Const v) = Const v
held_leaf table (Prop i) = Prop i
held_leaf table (Hold m) = Hold (get_or table m 0)

-- the operands, as parts: none, one or two
abbrev pub operand_parts : ℕ → ℕ → ℕ → List ℕ
operand_parts zero left right = []
operand_parts (suc zero) left right = left ∷ []
operand_parts (suc (suc n)) left right = left ∷ (right ∷ [])

-- those of a top
abbrev pub parts_of : PartTop → List ℕ
parts_of t = operand_parts t.operands t.left t.right

-- ---- what the top of a part asks and gives
-- the bytes, their marks and the entries of held slots are such as can be read
pub record PartSource (bytes marks table : List ℕ) : Type 0 where
  pub long : length bytes ≤ length marks
  pub few : length bytes ≤ nodes_room
  pub held : length table ≡ slots_room

-- u are the bytes from a part's node on
abbrev pub FromPart : List ℕ → List ℕ → ℕ → Type 0
FromPart u bytes part = u ≡ drop (part / parts_room) bytes

-- u begins with the part's node, which stands in bytes that can be read
pub record TopAsk (u marks table : List ℕ) (part : ℕ) : Type 0 where
  pub bytes : List ℕ
  pub from : FromPart u bytes part
  pub choose : Formula → Option ℕ
  pub formula : Formula
  pub stands : PartAt choose bytes marks part formula
  pub source : PartSource bytes marks table

-- the top is the formula's, and its operands stand behind the part
pub record TopsAs (choose : Formula → Option ℕ) (bytes marks : List ℕ) (held : ℕ → ℕ) (part : ℕ) (f : Formula) (t : PartTop) : Type 0 where
  pub operands : List Formula
  pub few : t.operands ≤ 2
  pub view : TopOf bytes marks held f t.token t.nodes operands
  pub stand : PartsAt choose bytes marks part (parts_of t) operands

-- so for whatever bytes, choices and held slots, and whatever formula the part is
abbrev pub TopsPart : List ℕ → List ℕ → List ℕ → ℕ → PartTop → Type 0
TopsPart u marks table part t =
    (bytes : List ℕ) → FromPart u bytes part → (choose : Formula → Option ℕ) (held : ℕ → ℕ) (f : Formula) → HeldBy held table → PartAt choose bytes marks part f
    → TopsAs choose bytes marks held part f t

-- its numbers are such as the desk can hold
pub record SmallTop (t : PartTop) : Type 0 where
  pub few : t.operands ≤ 2
  pub token : t.token < 65536
  pub left : 1 ≤ t.operands → t.left < 65536
  pub right : 2 ≤ t.operands → t.right < 65536

-- ---- what is written: a token, and its operands in front of what is still to be looked at
pub record PutsTop (desk : List ℕ) (w rest : ℕ) (t : PartTop) (desk' : List ℕ) (top : ℕ) : Type 0 where
  pub top-is : top + t.operands ≡ rest
  pub front : take (w + 1) desk' ≡ take w desk ++ (t.token ∷ [])
  pub behind : drop top desk' ≡ parts_of t ++ drop rest desk
