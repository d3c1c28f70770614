-- The lines as bytes. Assumes nothing: these are definitions.
use Rattle.std.specs.Prelude.{ℕ, zero, suc, ◌+◌, ◌^◌, List, [], ◌∷◌, ◌++◌, ltb}
use Rattle.lists.specs.Tests.{pick}
use Rattle.io.specs.Digits.{last_digits}
use Rattle.answers.specs.declared.Refusal.{Refusal}
use Rattle.answers.specs.declared.Verdict.{Verdict}
use Rattle.answers.specs.declared.Verdict.TheVariants.{False, True, Pending}
use Rattle.answers.specs.Said.{number_of}

-- ---- fields
-- how many decimal digits a number takes, of at most f + 1
unfoldable pub places : ℕ → ℕ → ℕ
places zero n = 1
places (suc f) n = pick (ltb n (10 ^ suc f)) (places f n) (2 + f)

-- a number of 64 bits in decimal digits, the fewest that hold it
unfoldable pub decimal_of : ℕ → List ℕ
decimal_of n = last_digits 10 (places 19 n) n

-- a space and a number
abbrev pub field_of : ℕ → List ℕ
field_of n = 32 ∷ decimal_of n

-- a space and a verdict: " false", " true", " pending"
abbrev pub verdict_text : Verdict → List ℕ
verdict_text False = 32 ∷ 102 ∷ 97 ∷ 108 ∷ 115 ∷ 101 ∷ []
verdict_text True = 32 ∷ 116 ∷ 114 ∷ 117 ∷ 101 ∷ []
verdict_text Pending = 32 ∷ 112 ∷ 101 ∷ 110 ∷ 100 ∷ 105 ∷ 110 ∷ 103 ∷ []

-- ---- lines, each with its line feed
abbrev pub feed : List ℕ
feed = 10 ∷ []

-- ticks, verdict, slots and nodes
abbrev pub standing_line : ℕ → Verdict → ℕ → ℕ → List ℕ
standing_line ticks verdict slots nodes = decimal_of ticks ++ (verdict_text verdict ++ (field_of slots ++ (field_of nodes ++ feed)))

-- ticks, verdict and nodes
abbrev pub progress_line : ℕ → Verdict → ℕ → List ℕ
progress_line ticks verdict nodes = decimal_of ticks ++ (verdict_text verdict ++ (field_of nodes ++ feed))

-- "refused" and the refusal's number
abbrev pub refused_line : Refusal → List ℕ
refused_line refusal = (114 ∷ 101 ∷ 102 ∷ 117 ∷ 115 ∷ 101 ∷ 100 ∷ []) ++ (field_of (number_of refusal) ++ feed)
