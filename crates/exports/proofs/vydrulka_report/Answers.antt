-- The call's own promise, and what its answer holds: the place where a run is not known. Assumes nothing.
use Rattle.std.specs.Prelude.{Err}
use mathlib.Core.Path.{sym, ap, ◌∙◌}
use mathlib.Core.List.{[], ◌∷◌}
use native.Mathlib.Omega.{arith}
use Rattle.answers.specs.Said.{Said}
use Rattle.reporting.specs.Report.{said_report}
use Rattle.exported.proofs.Values.{told-refused, told_with, told-accepted}
use Rattle.exports.proofs.vydrulka_report.Goals as goal

pub returns-in-Err-Refused : goal.returns-in-Err-Refused
returns-in-Err-Refused c =
    let t = c.in-Err-Refused in
    let inner = rw t.is at t.field-0-is in
    let e = ap said_report (sym (t.is ∙ ap Err inner)) ∙ c.report-answer.ensures.says in
    record {
      says = c.from.ensures ∙ ap (λ (s : Said). s.number) e;
      leaves = c.report-answer.ensures.leaves;
      gives-place = told-refused t.why 0 _ e;
    }

pub returns-in-Err-NoRun : goal.returns-in-Err-NoRun
returns-in-Err-NoRun c =
    let t = c.in-Err-NoRun in
    let inner = rw t.is at t.field-0-is in
    let e = ap said_report (sym (t.is ∙ ap Err inner)) ∙ c.report-answer.ensures.says in
    record {
      says = ap (λ (s : Said). s.number) e;
      leaves = c.report-answer.ensures.leaves;
      gives-place = told_with 19 (t.at ∷ []) 0 _ (omega arith) e;
    }

pub returns-in-Ok : goal.returns-in-Ok
returns-in-Ok c =
    let e = ap said_report (sym c.in-Ok.is) ∙ c.report-answer.ensures.says in
    record {
      says = ap (λ (s : Said). s.number) e;
      leaves = c.report-answer.ensures.leaves;
      gives-place = told-accepted [] 0 _ e;
    }
