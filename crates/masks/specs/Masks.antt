-- Masks: numbers whose bits are propositions. Assumes nothing: these are definitions.
use Rattle.std.specs.Prelude.{ℕ, zero, suc, ◌+◌, ◌-◌, ◌/◌, ◌%◌, ◌^◌, Bool, List, [], ◌∷◌, eqb}
use Rattle.std.specs.Int.Bits.{bit_or}
use Rattle.lists.specs.Tests.{both}
use Rattle.limits.specs.Limits.{propositions_most}

-- bit i of m, of value 2 to the i, as a number
abbrev pub bit_at : ℕ → ℕ → ℕ
bit_at m i = m / 2 ^ i % 2

-- the sum of f at 0 .. k - 1
unfoldable pub sum_to : ℕ → (ℕ → ℕ) → ℕ
sum_to zero f = 0
sum_to (suc k) f = sum_to k f + f k

-- the ones of a mask
unfoldable pub ones_of : ℕ → ℕ
ones_of m = sum_to propositions_most (bit_at m)

-- their ones, summed over boards
unfoldable pub sum_ones : List ℕ → ℕ
sum_ones [] = 0
sum_ones (m ∷ ms) = ones_of m + sum_ones ms

-- their union, bit by bit, with what is in a already
unfoldable pub union_with : ℕ → List ℕ → ℕ
union_with a [] = a
union_with a (m ∷ ms) = union_with (bit_or a m) ms

-- the masks' rule: their ones add up to p and their union is the lowest p bits
unfoldable pub masks_rule : ℕ → List ℕ → Bool
masks_rule p ms = both (eqb (sum_ones ms) p) (eqb (union_with 0 ms) (2 ^ p - 1))
