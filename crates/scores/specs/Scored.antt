-- Scores as the code holds them: a list of as many counts as there may be boards, added board by board, and the choice among them.
-- Assumes nothing: these are definitions.
use Rattle.std.specs.Prelude.{ℕ, ◌+◌, ◌<◌, List, [], ◌∷◌, replicate, set, get_or, Option, Some, None}
use Rattle.std.proofs.Math.Option as math
use Rattle.limits.specs.Limits.{boards_most}

-- nothing is scored
abbrev pub none_scored : List ℕ
none_scored = replicate boards_most 0

-- board b scores 1; nothing is scored where it is no board
abbrev pub one_scored : ℕ → List ℕ
one_scored b = set none_scored b 1

-- board by board
unfoldable pub added : List ℕ → List ℕ → List ℕ
added [] ys = []
added (x ∷ xs) [] = []
added (x ∷ xs) (y ∷ ys) = (x + y) ∷ added xs ys

-- no count is as large: a board's number has room beside it
abbrev pub counts_below : ℕ
counts_below = 134217728

abbrev pub Few : List ℕ → Type 0
Few counts = (b : ℕ) → get_or counts b 0 < counts_below

-- the board that a part is chosen for; none where it stays
abbrev pub board_of : Option ℕ → math.Option ℕ
board_of (Some b) = math.some b
board_of None = math.none
