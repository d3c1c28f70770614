-- A tag as one number: a board, a length in a slot there and, at a place holder, how far on its slot stands. The parts' sizes stand
-- here, and in src/packed.rt for the code. Assumes nothing: these are definitions.
use Rattle.std.specs.Prelude.{ℕ, ◌+◌, ◌*◌, ◌/◌, ◌%◌}

-- how many boards a tag tells apart, how many lengths and how many distances: four bytes have room for all of them together
abbrev pub board_room : ℕ
board_room = 32

abbrev pub length_room : ℕ
length_room = 8192

abbrev pub ahead_room : ℕ
ahead_room = 16384

-- the board and the length stand below the distance
abbrev pub near_room : ℕ
near_room = board_room * length_room

-- the parts of a tag
unfoldable pub board_in : ℕ → ℕ
board_in tag = tag % board_room

unfoldable pub here_in : ℕ → ℕ
here_in tag = tag / board_room % length_room

unfoldable pub ahead_in : ℕ → ℕ
ahead_in tag = tag / near_room

-- a tag without a distance, and a tag with another one
unfoldable pub tag_of : ℕ → ℕ → ℕ
tag_of here board = here * board_room + board

unfoldable pub with_ahead : ℕ → ℕ → ℕ
with_ahead tag ahead = tag % near_room + ahead * near_room
