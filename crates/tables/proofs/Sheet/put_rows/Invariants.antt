-- The invariant: the lines of the rules below this one are put. Assumes nothing.
use mathlib.Core.Path.{◌≡◌}
use mathlib.Core.List.{◌++◌}
use Prim.Native.Nat.{◌+◌, ◌*◌, ◌≤◌}
use lib.ListN.{length}
use Rattle.tables.specs.Pages.{lines_below, line_most}
use Rattle.tables.proofs.Sheet.put_rows.Given as goal

abbrev pub invariant-loop-rule : goal.invariant-loop-rule
invariant-loop-rule l = (length l.page ≤ length l.initial.page + line_most * l.rule) × (l.page ≡ l.initial.page ++ lines_below l.self l.report l.rule)
