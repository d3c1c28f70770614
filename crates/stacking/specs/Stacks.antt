-- The results at the end of some bytes, and what is noted beside them. Assumes nothing: these are definitions.
use Rattle.std.specs.Prelude.{◌≡◌, Bool, false, List, [], ◌∷◌, ℕ, ◌+◌, ◌<◌, ◌≤◌, length, get_or, take, drop}
use Rattle.limits.specs.Limits.{nodes_room}
use Rattle.kinds.specs.declared.Join.{Join}
use Rattle.kinds.specs.declared.Binary.TheVariants.{Joined, Until}
use Rattle.kinds.specs.Kinds.{join_code}
use Rattle.ltl.specs.Formula.{Formula, leaf, one, two, size}
use Rattle.ltl.specs.Progression.{negated}
use Rattle.peeling.specs.Peeled.{encodes, Codeds}

-- of a formula that is joined the length of its left operand is noted beside the byte behind the operator, or 0 where it is not known;
-- the same of its right operand. What else a formula has noted beside its bytes says nothing.
abbrev pub Spined : List ℕ → ℕ → Formula → Type 0
Spined notes at (leaf a) = Unit {0}
Spined notes at (one o f) = Unit {0}
Spined notes at (two Until f g) = Unit {0}
Spined notes at (two (Joined j) f g) = (0 < get_or notes (at + 1) 0 → get_or notes (at + 1) 0 ≡ size f) × Spined notes (at + 1 + size f) g

-- from w on each result has its length noted beside its first byte
abbrev pub Noted : List ℕ → ℕ → List Formula → Type 0
Noted notes w [] = Unit {0}
Noted notes w (f ∷ fs) = (get_or notes w 0 ≡ size f) × Spined notes w f × Noted notes (w + size f) fs

-- from w on stand the results, and nothing else
pub record Stack (fs : List Formula) (p notes : List ℕ) (w : ℕ) : Type 0 where
  pub bytes : drop w p ≡ encodes fs
  pub inside : w ≤ length p
  pub room : length p ≤ length notes
  pub few : length p ≤ nodes_room
  pub coded : Codeds fs
  pub noted : Noted notes w fs

-- what stands before the byte below w stays as it was
pub record Spared (w : ℕ) (p notes p' notes' : List ℕ) : Type 0 where
  pub front : (v : ℕ) → v < w → take v p' ≡ take v p
  pub notes-front : (q : ℕ) → q + 1 < w → get_or notes' q 0 ≡ get_or notes q 0

-- ---- not of the lowest result
pub record Negatable (p notes : List ℕ) (w : ℕ) : Type 0 where
  pub top : Formula
  pub others : List Formula
  pub stack : Stack (top ∷ others) p notes w
  pub some : 0 < w

pub record Negates (p notes : List ℕ) (w : ℕ) (p' notes' : List ℕ) (v : ℕ) : Type 0 where
  pub untouched : Spared w p notes p' notes'
  pub means : (f : Formula) (fs : List Formula) → Stack (f ∷ fs) p notes w → Stack (negated f ∷ fs) p' notes' v

-- a byte that is said not to be a join's is none
abbrev pub JoinByte : ℕ → Bool → Type 0
JoinByte b r = r ≡ false → (j : Join) → b ≡ join_code j → ⊥
