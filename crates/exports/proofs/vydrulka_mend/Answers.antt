-- The call's own promise, and the values that its answer holds. Assumes nothing.
use mathlib.Core.Path.{sym, ap, ◌∙◌}
use mathlib.Core.List.{[], ◌∷◌}
use Rattle.answers.specs.Said.{Said}
use Rattle.mending.specs.Mend.{said_mend}
use Rattle.exported.proofs.Values.{value-refused, value-accepted}
use Rattle.exports.proofs.vydrulka_mend.Goals as goal

pub returns-in-Err : goal.returns-in-Err
returns-in-Err c =
    let p = c.mend-answer.ensures in
    let e = sym (ap said_mend c.in-Err.is) ∙ p.says in
    let w = c.in-Err.why in
    record {
      says = c.from.ensures ∙ ap (λ (s : Said). s.number) e;
      leaves = p.leaves;
      leaves-marks = p.leaves-marks;
      gives-kept = value-refused w 0 _ e;
      gives-first = value-refused w 1 _ e;
    }

pub returns-in-Ok : goal.returns-in-Ok
returns-in-Ok c =
    let p = c.mend-answer.ensures in
    let e = sym (ap said_mend c.in-Ok.is) ∙ p.says in
    let m = c.in-Ok.m in
    record {
      says = ap (λ (s : Said). s.number) e;
      leaves = p.leaves;
      leaves-marks = p.leaves-marks;
      gives-kept = value-accepted (m.kept ∷ m.first ∷ []) 0 _ e;
      gives-first = value-accepted (m.kept ∷ m.first ∷ []) 1 _ e;
    }
