-- The member test over bytes. Assumes nothing: these are definitions.
use Rattle.std.specs.Prelude.{◌≡◌, Bool, List, ◌++◌, ℕ, ◌+◌, ◌<◌, ◌≤◌, length, get_or, set, drop}
use Rattle.limits.specs.Limits.{nodes_room}
use Rattle.kinds.specs.declared.Join.{Join}
use Rattle.kinds.specs.Kinds.{join_code}
use Rattle.ltl.specs.Formula.{Formula, join, same, size, encode}
use Rattle.ltl.specs.Progression.{member}
use Rattle.nodes.specs.Begins.{Front}
use Rattle.stacking.specs.Stacks.{Spined}

-- ---- whether what stands from `at` to `end` is the formula of l bytes at w
pub record SameAt (p : List ℕ) (w l at end : ℕ) (x : Bool) : Type 0 where
  pub means : (f h : Formula) (k m : List ℕ) → Front (drop w p) f k → l ≡ size f → Front (drop at p) h m → end ≡ at + size h → x ≡ same f h

-- ---- the length of the left operand of what is joined at a place
pub record LeftKnown (p notes : List ℕ) (at : ℕ) (a : Formula) : Type 0 where
  pub j : Join
  pub right : Formula
  pub rest : List ℕ
  pub front : Front (drop at p) (join j a right) rest
  pub known : 0 < get_or notes (at + 1) 0 → get_or notes (at + 1) 0 ≡ size a

pub record LeftAsk (p notes : List ℕ) (at : ℕ) : Type 0 where
  pub left : Formula
  pub is : LeftKnown p notes at left
  pub room : length p ≤ length notes
  pub few : length p ≤ nodes_room

-- it is noted from then on
pub record LeftOf (p notes : List ℕ) (at : ℕ) (notes' : List ℕ) (n : ℕ) : Type 0 where
  pub puts : notes' ≡ set notes (at + 1) n
  pub means : (a : Formula) → LeftKnown p notes at a → n ≡ size a

-- ---- whether f is a member of g: f at w, of l bytes, and g behind it, of r bytes
pub record Compared (p : List ℕ) (w l r op : ℕ) (j : Join) (f g : Formula) (rest : List ℕ) : Type 0 where
  pub left : Front (drop w p) f (encode g ++ rest)
  pub right : Front (drop (w + l) p) g rest
  pub left-long : l ≡ size f
  pub right-long : r ≡ size g
  pub op-is : op ≡ join_code j

pub record Comparable (p notes : List ℕ) (w l r op : ℕ) : Type 0 where
  pub j : Join
  pub f : Formula
  pub g : Formula
  pub rest : List ℕ
  pub compared : Compared p w l r op j f g rest
  pub spined : Spined notes (w + l) g
  pub room : length p ≤ length notes
  pub few : length p ≤ nodes_room

-- lengths of left operands that were not known may have been noted, and nothing else
pub record IsMember (p notes : List ℕ) (w l r op : ℕ) (notes' : List ℕ) (x : Bool) : Type 0 where
  pub below : (q : ℕ) → q ≤ w + l → get_or notes' q 0 ≡ get_or notes q 0
  pub behind : (q : ℕ) → w + l + r ≤ q → get_or notes' q 0 ≡ get_or notes q 0
  pub means : (j : Join) (f g : Formula) (rest : List ℕ) → Compared p w l r op j f g rest → (x ≡ member j f g) × Spined notes' (w + l) g
