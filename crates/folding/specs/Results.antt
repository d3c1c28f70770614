-- The results of folding from the last byte on, and what each operator makes of them. Assumes nothing: these are definitions.
use Rattle.std.specs.Prelude.{◌≡◌, Bool, List, [], ◌∷◌, ◌++◌, ℕ, ◌+◌, ◌-◌, ◌<◌, ◌≤◌, length, set, drop}
use Rattle.limits.specs.Limits.{nodes_room}
use Rattle.kinds.specs.declared.Leaf.{Leaf}
use Rattle.kinds.specs.declared.Leaf.TheVariants.{Const, Prop, Hold}
use Rattle.kinds.specs.declared.Unary.{Unary}
use Rattle.kinds.specs.declared.Binary.{Binary}
use Rattle.kinds.specs.Kinds.{leaf_code, unary_code, binary_code}
use Rattle.ltl.specs.Formula.{Formula, leaf, one, two, constant, size, encode}
use Rattle.peeling.specs.Peeled.{encodes}
use Rattle.folded.specs.Folding.{folded_one, folded_two}

-- what is noted of a result: the byte of the constant that it is, else one more than its length
abbrev pub note_of : Formula → ℕ
note_of (leaf (Const v)) = leaf_code (Const v)
note_of (leaf (Prop i)) = 1 + size (leaf (Prop i))
note_of (leaf (Hold k)) = 1 + size (leaf (Hold k))
note_of (one o f) = 1 + size (one o f)
note_of (two o f g) = 1 + size (two o f g)

-- the bytes that stand of it: none of a constant
abbrev pub held_bytes : Formula → List ℕ
held_bytes (leaf (Const v)) = []
held_bytes (leaf (Prop i)) = encode (leaf (Prop i))
held_bytes (leaf (Hold k)) = encode (leaf (Hold k))
held_bytes (one o f) = encode (one o f)
held_bytes (two o f g) = encode (two o f g)

-- how many these are, by the note
abbrev pub note_length : ℕ → ℕ
note_length n = n - 1

abbrev pub notes_of : List Formula → List ℕ
notes_of [] = []
notes_of (f ∷ fs) = note_of f ∷ notes_of fs

abbrev pub held_all : List Formula → List ℕ
held_all [] = []
held_all (f ∷ fs) = held_bytes f ++ held_all fs

-- from w on stand the bytes of the results, and from t on their notes, and nothing else
pub record Results (fs : List Formula) (p notes : List ℕ) (w t : ℕ) : Type 0 where
  pub bytes : drop w p ≡ held_all fs
  pub inside : w ≤ length p
  pub noted : drop t notes ≡ notes_of fs
  pub room : t ≤ length notes
  pub few : length p ≤ nodes_room

-- ---- a result of one node
abbrev pub FoldsLeaf : ℕ → List ℕ → List ℕ → ℕ → ℕ → List ℕ → List ℕ → ℕ → Type 0
FoldsLeaf c p notes w t p' notes' v = (a : Leaf) (fs : List Formula) → c ≡ leaf_code a → Results fs p notes w t → Results (leaf a ∷ fs) p' notes' v (t - 1)

-- ---- an operator over the lowest result
-- r notes the constant that the operator makes of the one noted by n
pub record MakesConstant (o : Unary) (n r : ℕ) : Type 0 where
  pub means : (v : Bool) → n ≡ leaf_code (Const v) → (x : Bool) × (folded_one o (constant v) ≡ constant x) × (r ≡ leaf_code (Const x))

pub record OneAsk (p notes : List ℕ) (w t : ℕ) : Type 0 where
  pub f : Formula
  pub others : List Formula
  pub results : Results (f ∷ others) p notes w t
  pub some : 0 < w

abbrev pub FoldsOne : Unary → ℕ → List ℕ → List ℕ → ℕ → ℕ → List ℕ → List ℕ → ℕ → Type 0
FoldsOne o c p notes w t p' notes' v =
    (f : Formula) (fs : List Formula) → c ≡ unary_code o → Results (f ∷ fs) p notes w t → Results (folded_one o f ∷ fs) p' notes' v t

-- ---- an operator over the two lowest results, which have room for one byte more than they would have as formulas
pub record TwoAsk (p notes : List ℕ) (w t : ℕ) : Type 0 where
  pub f : Formula
  pub g : Formula
  pub others : List Formula
  pub results : Results (f ∷ (g ∷ others)) p notes w t
  pub fits : length (encodes (f ∷ (g ∷ others))) < length p

abbrev pub FoldsTwo : Binary → ℕ → List ℕ → List ℕ → ℕ → ℕ → List ℕ → List ℕ → ℕ → Type 0
FoldsTwo o c p notes w t p' notes' v =
    (f g : Formula) (fs : List Formula) → c ≡ binary_code o → Results (f ∷ (g ∷ fs)) p notes w t → Results (folded_two o f g ∷ fs) p' notes' v (t + 1)

-- ---- the byte of a result that is the constant n; another result stays
pub record PutsConstant (n : ℕ) (p : List ℕ) (w : ℕ) (p' : List ℕ) (v : ℕ) : Type 0 where
  pub fixed : n < 2 → (v ≡ w - 1) × (p' ≡ set p (w - 1) n)
  pub other : 2 ≤ n → (v ≡ w) × (p' ≡ p)
