-- Which board a part belongs to. Assumes nothing: these are definitions.
use Rattle.std.specs.Prelude.{ℕ, suc, ◌+◌, Bool, List, [], ◌∷◌, map, get_or, ltb}
use Rattle.std.proofs.Math.Option.{Option, none, some}
use Rattle.std.specs.Int.Bits.{bit_and}
use Rattle.lists.specs.Tests.{pick, bit}
use Rattle.kinds.specs.declared.Leaf.TheVariants.{Const, Prop, Hold}
use Rattle.ltl.specs.Formula.{Formula, leaf, one, two}

-- how often a proposition that passes the test occurs in the part, what stands under next included; place holders count nothing
abbrev pub occurrences : (ℕ → Bool) → Formula → ℕ
occurrences test (leaf (Const v)) = 0
occurrences test (leaf (Prop i)) = pick (test i) 1 0
occurrences test (leaf (Hold k)) = 0
occurrences test (one o f) = occurrences test f
occurrences test (two o f g) = occurrences test f + occurrences test g

-- the scores of all boards, by their masks
abbrev pub scores_of : List ℕ → Formula → List ℕ
scores_of masks f = map (λ mask. occurrences (bit mask) f) masks

-- the highest score, the lowest board number on a tie: the boards from i on, where `place` has the highest count so far
unfoldable pub highest : Option ℕ → ℕ → ℕ → List ℕ → Option ℕ
highest place count i [] = place
highest place count i (x ∷ xs) = pick (ltb count x) (highest (some i) x (suc i) xs) (highest place count (suc i) xs)

-- the board that a part is chosen for; none where all scores are 0
unfoldable pub chosen : List ℕ → Formula → Option ℕ
chosen masks f = highest none 0 0 (scores_of masks f)

-- a board's sample: the bits of its mask in the event
unfoldable pub sample_of : List ℕ → ℕ → ℕ → ℕ
sample_of masks event board = bit_and event (get_or masks board 0)
