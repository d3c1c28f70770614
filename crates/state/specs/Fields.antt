-- The state's fields: a header of 16 bytes, a record for each board, one for each slot, the nodes, and zeros to the end. Where the
-- records are is told by the state's form. Assumes nothing: these are definitions.
use Rattle.std.specs.Prelude.{ℕ, ◌+◌, List, take, drop, get_or, ltb}
use Rattle.std.proofs.Math.Option.{Option}
use Rattle.lists.specs.Tests.{pick}
use Rattle.lists.specs.Listed.{listed}
use Rattle.le.specs.Le.{le_at}
use Rattle.ltl.specs.Formula.{Formula}
use Rattle.ltl.specs.Decode.{decoded}
use Rattle.state.specs.Form.{form_in, board_at, slot_rows, slots_at, nodes_at}

-- ---- the header
abbrev pub boards_in : List ℕ → ℕ
boards_in s = le_at s 0 2

abbrev pub slots_in : List ℕ → ℕ
slots_in s = le_at s 2 2

abbrev pub nodes_in : List ℕ → ℕ
nodes_in s = le_at s 4 2

abbrev pub boards_offset_in : List ℕ → ℕ
boards_offset_in s = le_at s 6 2

abbrev pub slots_offset_in : List ℕ → ℕ
slots_offset_in s = le_at s 8 2

abbrev pub nodes_offset_in : List ℕ → ℕ
nodes_offset_in s = le_at s 10 2

abbrev pub ticks_in : List ℕ → ℕ
ticks_in s = le_at s 12 4

-- ---- a board's record: mask 8, sample 8, sampled 1
abbrev pub mask_in : List ℕ → ℕ → ℕ
mask_in s i = le_at s (board_at (form_in s) i) 8

abbrev pub sample_in : List ℕ → ℕ → ℕ
sample_in s i = le_at s (board_at (form_in s) i + 8) 8

abbrev pub sampled_in : List ℕ → ℕ → ℕ
sampled_in s i = get_or s (board_at (form_in s) i + 16) 0

abbrev pub masks_in : List ℕ → List ℕ
masks_in s = listed (mask_in s) (boards_in s)

-- ---- a slot's record: board 1, stepped 1, start 2, length 2
abbrev pub slot_record_at : List ℕ → ℕ → ℕ
slot_record_at s k = slots_at (form_in s) (boards_in s) + slot_rows k

abbrev pub board_of_in : List ℕ → ℕ → ℕ
board_of_in s k = get_or s (slot_record_at s k) 0

abbrev pub stepped_in : List ℕ → ℕ → ℕ
stepped_in s k = get_or s (slot_record_at s k + 1) 0

abbrev pub start_in : List ℕ → ℕ → ℕ
start_in s k = le_at s (slot_record_at s k + 2) 2

abbrev pub length_in : List ℕ → ℕ → ℕ
length_in s k = le_at s (slot_record_at s k + 4) 2

-- where a slot's stretch ends: at the next slot's start, the last slot's at N
unfoldable pub stretch_end : List ℕ → ℕ → ℕ
stretch_end s k = pick (ltb (k + 1) (slots_in s)) (start_in s (k + 1)) (nodes_in s)

-- where the nodes begin
abbrev pub nodes_from : List ℕ → ℕ
nodes_from s = nodes_at (form_in s) (boards_in s) (slots_in s)

-- a slot's nodes, and the formula that they are
abbrev pub slot_bytes : List ℕ → ℕ → List ℕ
slot_bytes s k = take (length_in s k) (drop (nodes_from s + start_in s k) s)

abbrev pub formula_in : List ℕ → ℕ → Option Formula
formula_in s k = decoded (slot_bytes s k)
