-- A tag has its parts back: a board and a length that fit (`tag-has`), and a distance (`ahead-has`); with a distance it has the board
-- and the length that it had (`ahead-alike`). A board of a watch fits, and the length of a part of a network (`board-fits`,
-- `length-fits`), and so does a distance within one (`ahead-fits`). Assumes nothing.
use mathlib.Core.Path.{◌≡◌, ap}
use Prim.Native.Nat.{ℕ, ◌<◌, ◌≤◌}
use native.Mathlib.Omega.{arith}
use Rattle.limits.specs.Limits.{boards_most, nodes_room}
use Rattle.tagging.specs.Packed.{board_room, length_room, ahead_room, board_in, here_in, ahead_in, tag_of, with_ahead}

-- ---- what fits
pub board-fits : (board : ℕ) → board ≤ boards_most → board < board_room
board-fits board l = omega arith

pub length-fits : (here : ℕ) → here ≤ nodes_room → here < length_room
length-fits here l = omega arith

pub ahead-fits : (ahead : ℕ) → ahead ≤ nodes_room → ahead < ahead_room
ahead-fits ahead l = omega arith

-- ---- a board and a length in one number
pub record Has (tag here board : ℕ) : Type 0 where
  pub here-is : here_in tag ≡ here
  pub board-is : board_in tag ≡ board

pub tag-has : (tag here board : ℕ) → tag ≡ tag_of here board → board < board_room → here < length_room → Has tag here board
unfolding here_in board_in tag_of
tag-has tag here board e l k = record { here-is = omega arith; board-is = omega arith }

-- ---- two tags with one board and one length
pub record Alike (tag tag' : ℕ) : Type 0 where
  pub board-is : board_in tag ≡ board_in tag'
  pub here-is : here_in tag ≡ here_in tag'

pub alike_same : (tag tag' : ℕ) → tag ≡ tag' → Alike tag tag'
alike_same tag tag' e = record { board-is = ap board_in e; here-is = ap here_in e }

-- ---- a distance
pub ahead-alike : (tag ahead : ℕ) → Alike tag (with_ahead tag ahead)
unfolding here_in board_in with_ahead
ahead-alike tag ahead = record { board-is = omega arith; here-is = omega arith }

pub ahead-has : (tag ahead : ℕ) → ahead_in (with_ahead tag ahead) ≡ ahead
unfolding ahead_in with_ahead
ahead-has tag ahead = omega arith
