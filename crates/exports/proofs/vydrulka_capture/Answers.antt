-- The call's own promise, and the values that its answer holds. Assumes nothing.
use mathlib.Core.Path.{sym, ap, ◌∙◌}
use Rattle.answers.specs.Said.{Said}
use Rattle.capturing.specs.Capture.{values_of, said_capture}
use Rattle.exported.proofs.Values.{value-refused, value-accepted}
use Rattle.exports.proofs.vydrulka_capture.Goals as goal

pub returns-in-Err : goal.returns-in-Err
returns-in-Err c =
    let p = c.capture-answer.ensures in
    let e = sym (ap said_capture c.in-Err.is) ∙ p.says in
    let w = c.in-Err.why in
    record {
      says = c.from.ensures ∙ ap (λ (s : Said). s.number) e;
      leaves = p.leaves;
      leaves-second = p.leaves-second;
      gives-closed = value-refused w 0 _ e;
      gives-verdict = value-refused w 1 _ e;
      gives-stop = value-refused w 2 _ e;
    }

pub returns-in-Ok : goal.returns-in-Ok
returns-in-Ok c =
    let p = c.capture-answer.ensures in
    let e = sym (ap said_capture c.in-Ok.is) ∙ p.says in
    let vs = values_of c.in-Ok.c in
    record {
      says = ap (λ (s : Said). s.number) e;
      leaves = p.leaves;
      leaves-second = p.leaves-second;
      gives-closed = value-accepted vs 0 _ e;
      gives-verdict = c.from-in-Ok.ensures ∙ value-accepted vs 1 _ e;
      gives-stop = c.number_of.ensures ∙ value-accepted vs 2 _ e;
    }
