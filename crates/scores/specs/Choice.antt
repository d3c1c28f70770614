-- Choices as numbers: the board that a part is chosen for, and that it stays where all scores are 0. Assumes nothing: these are
-- definitions.
use Rattle.std.specs.Prelude.{ℕ, Bool, List, eqb}
use Rattle.std.proofs.Math.Option.{Option, none, some}
use Rattle.lists.specs.Tests.{either}
use Rattle.limits.specs.Limits.{boards_most}
use Rattle.network.specs.Scores.{highest}

-- a choice as a number: one more than the last board where the part stays
abbrev pub code_of : Option ℕ → ℕ
code_of none = boards_most
code_of (some b) = b

-- the board that scores choose, as a number
abbrev pub picked_by : List ℕ → ℕ
picked_by counts = code_of (highest none 0 0 counts)

-- a part of this choice stays in a slot on the board
unfoldable pub stays_on : ℕ → ℕ → Bool
stays_on choice board = either (eqb choice boards_most) (eqb choice board)
