-- A board as it is typed: `-`, or the names of some propositions, parted by commas. Others use `name_of`, `board_text`, `Typed` and
-- `TypedAs`. Assumes nothing: these are definitions.
use Rattle.std.specs.Prelude.{◌≡◌, Option, Some, None, List, [], ◌∷◌, ◌++◌, map, ℕ, zero, suc, ◌<◌, ◌^◌, eqb}
use Rattle.lists.specs.Tests.{pick, bit}
use Rattle.limits.specs.Limits.{propositions_most}
use Rattle.masks.specs.Masks.{union_with}
use Rattle.kinds.specs.declared.Leaf.TheVariants.{Prop}
use Rattle.text.specs.Printing.{leaf_text}

-- a proposition's name, as in a rule's text: the letter p, and its number
unfoldable pub name_of : ℕ → List ℕ
name_of i = leaf_text (Prop i)

-- the names of further propositions, each behind a comma
abbrev pub more_text : List ℕ → List ℕ
more_text [] = []
more_text (i ∷ is) = 44 ∷ (name_of i ++ more_text is)

-- the names of propositions, parted by commas
abbrev pub list_text : List ℕ → List ℕ
list_text [] = []
list_text (i ∷ is) = name_of i ++ more_text is

-- each is the number of a proposition
abbrev pub Propositions : List ℕ → Type 0
Propositions [] = Unit {0}
Propositions (i ∷ is) = (i < propositions_most) × Propositions is

-- the mask of these propositions: the union of their bits
abbrev pub mask_of : List ℕ → ℕ
mask_of is = union_with 0 (map (λ i. 2 ^ i) is)

-- a text is a board that sees this mask: in any order, and a name may come twice
pub data Typed (text : List ℕ) (mask : ℕ) : Type 0 where
  none : text ≡ 45 ∷ [] → mask ≡ 0 → Typed text mask
  some : (i : ℕ) (is : List ℕ) → Propositions (i ∷ is) → text ≡ list_text (i ∷ is) → mask ≡ mask_of (i ∷ is) → Typed text mask

-- a text read: the mask of the board that it is, or no board where it is none
abbrev pub TypedAs : List ℕ → Option ℕ → Type 0
TypedAs text (Some mask) = Typed text mask
TypedAs text None = (mask : ℕ) → Typed text mask → ⊥

-- ---- the text that a mask is shown as
-- the propositions of a mask below k, the lowest first
abbrev pub seen_below : ℕ → ℕ → List ℕ
seen_below mask zero = []
seen_below mask (suc k) = seen_below mask k ++ pick (bit mask k) (k ∷ []) []

-- all of them, or `-` where there is none
unfoldable pub board_text : ℕ → List ℕ
board_text mask = pick (eqb mask 0) (45 ∷ []) (list_text (seen_below mask propositions_most))
