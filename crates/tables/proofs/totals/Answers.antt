use mathlib.Core.Path.{◌≡◌, ap, ◌∙◌}
use Prim.Native.Nat.{◌+◌}
use native.Mathlib.Omega.{arith}
use Rattle.limits.specs.Limits.{rules_most}
use Rattle.reports.specs.Bytes.{runs_told}
use Rattle.tables.specs.Pages.{ran_below}
use Rattle.tables.proofs.Rows.{totals-none, runs-more, rules-more, once-few}
use Rattle.tables.proofs.totals.Goals as goal

pub loop-rule-init : goal.loop-rule-init
loop-rule-init c =
    let none = totals-none c.args.report.now in
    record { runs-few = omega arith; rules-few = omega arith; runs-told = none.0; rules-told = none.1 }

pub overflow_add-rules : goal.overflow_add-rules
overflow_add-rules c = let one = once-few _ _ c.ran-rules.ensures in omega arith

pub loop-rule-preserved : goal.loop-rule-preserved
loop-rule-preserved c =
    let one = once-few _ _ c.ran-rules.ensures in
    let inv = c.loop-rule.invariant in
    let e = c.from-runs.ensures in
    record {
      runs-few = omega arith;
      rules-few = omega arith;
      runs-told = ap (c.loop-rule.runs +◌) e ∙ runs-more _ _ _ c.row_at-row.ensures _ inv.runs-told;
      rules-told = rules-more _ _ _ c.row_at-row.ensures _ _ inv.rules-told c.ran-rules.ensures;
    }

pub returns : goal.returns
returns c =
    let all : c.loop-rule.rule ≡ rules_most = omega arith in
    let inv = c.loop-rule.invariant in
    (inv.runs-told ∙ ap (runs_told c.args.report.now) all, inv.rules-told ∙ ap (ran_below c.args.report.now) all)
