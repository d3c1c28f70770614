-- The call's own promise, and the value that its answer holds. Assumes nothing.
use mathlib.Core.Path.{sym, ap, ◌∙◌}
use mathlib.Core.List.{[], ◌∷◌}
use Rattle.answers.specs.Said.{Said}
use Rattle.stretching.specs.Stretch.{said_stretch}
use Rattle.exported.proofs.Values.{value-refused, value-accepted}
use Rattle.exports.proofs.vydrulka_stretch.Goals as goal

pub returns-in-Err : goal.returns-in-Err
returns-in-Err c =
    let p = c.stretch-answer.ensures in
    let e = sym (ap said_stretch c.in-Err.is) ∙ p.says in
    record { says = c.from.ensures ∙ ap (λ (s : Said). s.number) e; leaves = p.leaves; gives-first = value-refused c.in-Err.why 0 _ e }

pub returns-in-Ok : goal.returns-in-Ok
returns-in-Ok c =
    let p = c.stretch-answer.ensures in
    let e = sym (ap said_stretch c.in-Ok.is) ∙ p.says in
    record { says = ap (λ (s : Said). s.number) e; leaves = p.leaves; gives-first = value-accepted (c.in-Ok.n ∷ []) 0 _ e }
