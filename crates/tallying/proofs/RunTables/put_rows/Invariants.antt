-- The rows of the rules below r stand in front, and behind them what stood there before. Assumes nothing.
use mathlib.Core.Path.{◌≡◌}
use mathlib.Core.List.{◌++◌}
use Prim.Native.Nat.{◌*◌}
use lib.ListN.{drop}
use Rattle.reports.specs.Bytes.{row_length, rows_of}
use Rattle.tallying.specs.Tables.{table_row}
use Rattle.tallying.proofs.RunTables.put_rows.Given as goal

abbrev pub invariant-loop-r : goal.invariant-loop-r
invariant-loop-r l = l.report ≡ rows_of (table_row l.self) l.r ++ drop (row_length * l.r) l.initial.report
