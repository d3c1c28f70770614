-- What is written into a state within a tick: a board's sample, and a slot's step. Assumes nothing: these are definitions.
use Rattle.std.specs.Prelude.{ℕ, ◌+◌, List, [], ◌∷◌, ◌++◌, length, take, drop, set}
use Rattle.le.specs.Le.{le}
use Rattle.state.specs.Form.{form_in, board_at}
use Rattle.state.specs.Fields.{slot_record_at, nodes_from, start_in}

-- the bytes xs in the place of those at `at`
abbrev pub put_at : ℕ → List ℕ → List ℕ → List ℕ
put_at at xs s = take at s ++ (xs ++ drop (at + length xs) s)

-- the board's sample, and that it has sampled
unfoldable pub sample_given : List ℕ → ℕ → ℕ → List ℕ
sample_given s board bits = put_at (board_at (form_in s) board + 8) (le 8 bits ++ (1 ∷ [])) s

-- slot k's mark, its length, and its nodes
unfoldable pub slot_stepped : List ℕ → ℕ → ℕ → List ℕ → List ℕ
slot_stepped s k n bytes =
    put_at (nodes_from s + start_in s k) bytes (put_at (slot_record_at s k + 4) (le 2 n) (set s (slot_record_at s k + 1) 1))
