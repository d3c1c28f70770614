-- The sums of the rows below r stand in front, and behind them what stood there before, so the next row that is read is still the old one
-- (`row_next`); what stood there are bytes. Assumes nothing.
use mathlib.Core.Path.{◌≡◌}
use mathlib.Core.List.{◌++◌}
use Prim.Native.Nat.{◌*◌}
use lib.ListN.{drop}
use Rattle.le.proofs.Laws.{Bytes}
use Rattle.reports.specs.Bytes.{row_length, rows_of}
use Rattle.adding.specs.Add.{sum_row}
use Rattle.adding.proofs.add_rows.Given as goal

abbrev pub invariant-loop-r : goal.invariant-loop-r
invariant-loop-r l = record {
  summed : l.total ≡ rows_of (sum_row l.initial.total l.night) l.r ++ drop (row_length * l.r) l.initial.total;
  old-bytes : Bytes l.initial.total;
}
