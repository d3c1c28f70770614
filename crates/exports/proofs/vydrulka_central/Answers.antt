-- The call's own promise, and the values that its answer holds. Assumes nothing.
use mathlib.Core.Path.{ap, ◌∙◌}
use mathlib.Core.List.{[], ◌∷◌}
use Rattle.answers.specs.Said.{Said, verdict_number}
use Rattle.exported.proofs.Values.{value-refused, value-accepted}
use Rattle.exports.proofs.vydrulka_central.Goals as goal

pub returns-in-Err : goal.returns-in-Err
returns-in-Err c =
    let e = rw c.in-Err.is at c.central-answer.ensures.says in
    let w = c.in-Err.why in
    record { says = c.from.ensures ∙ ap (λ (s : Said). s.number) e; leaves = c.central-answer.ensures.leaves; gives-verdict = value-refused w 0 _ e; gives-length = value-refused w 1 _ e }

pub returns-in-Ok : goal.returns-in-Ok
returns-in-Ok c =
    let e = rw c.in-Ok.is at c.central-answer.ensures.says in
    let p = c.in-Ok.p in
    let vs = verdict_number p.verdict ∷ p.length ∷ [] in
    record { says = ap (λ (s : Said). s.number) e; leaves = c.central-answer.ensures.leaves; gives-verdict = c.from-in-Ok.ensures ∙ value-accepted vs 0 _ e; gives-length = value-accepted vs 1 _ e }
