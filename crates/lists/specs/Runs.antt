-- Runs of numbers in a list. Assumes nothing: these are definitions.
use Rattle.std.specs.Prelude.{ℕ, ◌-◌, List, ◌++◌, length, take, drop, replicate}

-- the list, and zeros behind it up to n numbers in all
abbrev pub padded : ℕ → List ℕ → List ℕ
padded n l = l ++ replicate (n - length l) 0

-- the part from a place to the end, as code lends it
abbrev pub tail : ℕ → List ℕ → List ℕ
tail a s = take (length s - a) (drop a s)

-- the whole after that part has been handed back as x
abbrev pub tail_as : ℕ → List ℕ → List ℕ → List ℕ
tail_as a s x = take a s ++ (x ++ drop (length s - a) (drop a s))
