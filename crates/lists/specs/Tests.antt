-- Tests in definitions that compute. Shut, so that two calls are equal where their arguments are; a proof that has to see
-- through one names it on an `unfolding` line. Assumes nothing: these are definitions.
use Rattle.std.specs.Prelude.{ℕ, ◌/◌, ◌%◌, ◌^◌, Bool, true, false, leb, eqb}

-- the first where the test holds, else the second
unfoldable pub pick : {A : Type 0} → Bool → A → A → A
pick true a b = a
pick false a b = b

-- both tests hold
unfoldable pub both : Bool → Bool → Bool
both true b = b
both false b = false

-- one of two tests holds
unfoldable pub either : Bool → Bool → Bool
either true b = true
either false b = b

-- n is from 1 to the most
abbrev pub in_range : ℕ → ℕ → Bool
in_range most n = both (leb 1 n) (leb n most)

-- bit i of n, of value 2 to the i, is 1
unfoldable pub bit : ℕ → ℕ → Bool
bit n i = eqb (n / 2 ^ i % 2) 1
