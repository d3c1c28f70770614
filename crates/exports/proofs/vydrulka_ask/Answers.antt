-- The call's own promise, and the values that its answer holds. Assumes nothing.
use mathlib.Core.Path.{ap, ◌∙◌}
use mathlib.Core.List.{[], ◌∷◌}
use Rattle.answers.specs.Said.{Said, verdict_number}
use Rattle.exported.proofs.Values.{value-refused, value-accepted}
use Rattle.exports.proofs.vydrulka_ask.Goals as goal

pub returns-in-Err : goal.returns-in-Err
returns-in-Err c =
    let e = rw c.in-Err.is at c.ask-answer.ensures.says in
    let w = c.in-Err.why in
    record { says = c.from.ensures ∙ ap (λ (s : Said). s.number) e; gives-verdict = value-refused w 0 _ e; gives-ticks = value-refused w 1 _ e; gives-slots = value-refused w 2 _ e; gives-nodes = value-refused w 3 _ e }

pub returns-in-Ok : goal.returns-in-Ok
returns-in-Ok c =
    let e = rw c.in-Ok.is at c.ask-answer.ensures.says in
    let t = c.in-Ok.t in
    let vs = verdict_number t.verdict ∷ t.ticks ∷ t.slots ∷ t.nodes ∷ [] in
    record { says = ap (λ (s : Said). s.number) e; gives-verdict = c.from-in-Ok.ensures ∙ value-accepted vs 0 _ e; gives-ticks = value-accepted vs 1 _ e; gives-slots = value-accepted vs 2 _ e; gives-nodes = value-accepted vs 3 _ e }
