-- The call's own promise, and the values that its answer holds. Assumes nothing.
use mathlib.Core.Path.{sym, ap, ◌∙◌}
use mathlib.Core.List.{[], ◌∷◌}
use Rattle.answers.specs.Said.{Said}
use Rattle.rules.specs.Read.{said_read}
use Rattle.exported.proofs.Values.{value-refused, value-accepted}
use Rattle.exports.proofs.vydrulka_read.Goals as goal

pub returns-in-Err : goal.returns-in-Err
returns-in-Err c =
    let r = c.read-answer.ensures in
    let e = sym (ap said_read c.in-Err.is) ∙ r.says in
    let w = c.in-Err.why in
    record {
      says = c.from.ensures ∙ ap (λ (s : Said). s.number) e;
      leaves-masks = r.leaves-masks;
      leaves-formula = r.leaves-formula;
      gives-boards = value-refused w 0 _ e;
      gives-propositions = value-refused w 1 _ e;
      gives-nodes = value-refused w 2 _ e;
    }

pub returns-in-Ok : goal.returns-in-Ok
returns-in-Ok c =
    let r = c.read-answer.ensures in
    let e = sym (ap said_read c.in-Ok.is) ∙ r.says in
    let n = c.in-Ok.c in
    let vs = n.boards ∷ n.propositions ∷ n.nodes ∷ [] in
    record {
      says = ap (λ (s : Said). s.number) e;
      leaves-masks = r.leaves-masks;
      leaves-formula = r.leaves-formula;
      gives-boards = value-accepted vs 0 _ e;
      gives-propositions = value-accepted vs 1 _ e;
      gives-nodes = value-accepted vs 2 _ e;
    }
