-- The invariant: runs and rules are those of the rules below this one, which have fewer than 2 to the 32 runs each. Assumes nothing.
use mathlib.Core.Path.{◌≡◌}
use Prim.Native.Nat.{◌*◌, ◌^◌, ◌≤◌}
use Rattle.reports.specs.Bytes.{runs_told}
use Rattle.tables.specs.Pages.{ran_below}
use Rattle.tables.proofs.totals.Given as goal

abbrev pub invariant-loop-rule : goal.invariant-loop-rule
invariant-loop-rule l = record {
  runs-few : l.runs ≤ l.rule * 2 ^ 32;
  rules-few : l.rules ≤ l.rule;
  runs-told : l.runs ≡ runs_told l.report l.rule;
  rules-told : l.rules ≡ ran_below l.report l.rule;
}
