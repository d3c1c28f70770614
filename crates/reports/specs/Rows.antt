-- Rows by their numbers: the row of zeros, rows whose numbers fit their bytes, and a number of all rows added up. Assumes nothing: these are
-- definitions.
use Rattle.std.specs.Prelude.{ℕ, zero, suc, ◌+◌, ◌<◌, ◌^◌}
use Rattle.reports.specs.declared.Row.{Row}

-- that of a rule without a run
abbrev pub empty_row : Row
empty_row = record { runs = 0; falses = 0; trues = 0; pendings = 0; earliest = 0; latest = 0; sum = 0 }

-- each number of the row is less than its bytes can hold
pub record FitsRow (w : Row) : Type 0 where
  pub runs : w.runs < 256 ^ 4
  pub falses : w.falses < 256 ^ 4
  pub trues : w.trues < 256 ^ 4
  pub pendings : w.pendings < 256 ^ 4
  pub earliest : w.earliest < 256 ^ 4
  pub latest : w.latest < 256 ^ 4
  pub sum : w.sum < 256 ^ 8

-- what a function gives below n, added up
unfoldable pub sum_below : (ℕ → ℕ) → ℕ → ℕ
sum_below f zero = 0
sum_below f (suc n) = sum_below f n + f n
