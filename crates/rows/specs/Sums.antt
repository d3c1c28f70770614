-- What is asked of two rows that are added. Assumes nothing: these are definitions.
use Rattle.std.specs.Prelude.{◌+◌, ◌<◌, ◌^◌}
use Rattle.reports.specs.declared.Row.{Row}

-- each of their counts, and their sums, fit together into the field of one row
pub record RowsFit (a b : Row) : Type 0 where
  pub runs : a.runs + b.runs < 2 ^ 32
  pub falses : a.falses + b.falses < 2 ^ 32
  pub trues : a.trues + b.trues < 2 ^ 32
  pub pendings : a.pendings + b.pendings < 2 ^ 32
  pub sum : a.sum + b.sum < 2 ^ 64
