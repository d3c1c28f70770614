-- The average of some ticks. Assumes nothing: these are definitions.
use Rattle.std.specs.Prelude.{List, ◌∷◌, ◌++◌, ℕ, ◌+◌, ◌*◌, ◌/◌, ◌%◌}
use Rattle.lines.specs.Lines.{decimal_of}

-- the average of n ticks, n at least 1, in tenths of a tick: the nearest number of tenths, and of two that are equally near the higher
unfoldable pub tenths_of : ℕ → ℕ → ℕ
tenths_of sum n = (20 * sum + n) / (2 * n)

-- the same as a number with one decimal: "17.7"
abbrev pub average_text : ℕ → ℕ → List ℕ
average_text sum n = decimal_of (tenths_of sum n / 10) ++ (46 ∷ decimal_of (tenths_of sum n % 10))

-- the most bytes of it: two numbers and a point
abbrev pub average_most : ℕ
average_most = 41
