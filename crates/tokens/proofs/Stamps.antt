-- Stamps: equal ones are equal boards and equal numbers of nodes. Assumes nothing.
use mathlib.Core.Path.{◌≡◌}
use Prim.Native.Nat.{ℕ, ◌<◌}
use native.Mathlib.Omega.{arith}
use Rattle.tokens.specs.Kept.{stamp_room, stamp_of}

pub stamp-one : (a b m n : ℕ) → a < stamp_room → b < stamp_room → stamp_of a m ≡ stamp_of b n → (a ≡ b) × (m ≡ n)
unfolding stamp_of
stamp-one a b m n h k e = (omega arith, omega arith)
