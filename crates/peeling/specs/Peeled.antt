-- Formulas one behind the other, and those that stand behind a place of their bytes. Assumes nothing: these are definitions.
use Rattle.std.specs.Prelude.{List, [], ◌∷◌, ◌++◌, ℕ, zero, suc}
use Rattle.ltl.specs.Formula.{Formula, leaf, one, two, encode, Coded}

-- their bytes
abbrev pub encodes : List Formula → List ℕ
encodes [] = []
encodes (f ∷ fs) = encode f ++ encodes fs

-- every number in them has a code
abbrev pub Codeds : List Formula → Type 0
Codeds [] = Unit {0}
Codeds (f ∷ fs) = Coded f × Codeds fs

-- the formulas behind the first byte: the operands of its node, then the others
abbrev pub peel : List Formula → List Formula
peel [] = []
peel (leaf a ∷ fs) = fs
peel (one o f ∷ fs) = f ∷ fs
peel (two o f g ∷ fs) = f ∷ (g ∷ fs)

-- the formulas behind the first n bytes
abbrev pub peeled : ℕ → List Formula → List Formula
peeled zero fs = fs
peeled (suc n) fs = peel (peeled n fs)
