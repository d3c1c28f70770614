-- The call's own promise, and the values that its answer holds. Assumes nothing.
use mathlib.Core.Path.{sym, ap, ◌∙◌}
use mathlib.Core.List.{[], ◌∷◌}
use Rattle.answers.specs.Said.{Said}
use Rattle.printing.specs.Print.{said_print}
use Rattle.exported.proofs.Values.{value-refused, value-accepted}
use Rattle.exports.proofs.vydrulka_print.Goals as goal

pub returns-in-Err : goal.returns-in-Err
returns-in-Err c =
    let p = c.print-answer.ensures in
    let e = sym (ap said_print c.in-Err.is) ∙ p.says in
    record { says = c.from.ensures ∙ ap (λ (s : Said). s.number) e; leaves = p.leaves; gives-length = value-refused c.in-Err.why 0 _ e }

pub returns-in-Ok : goal.returns-in-Ok
returns-in-Ok c =
    let p = c.print-answer.ensures in
    let e = sym (ap said_print c.in-Ok.is) ∙ p.says in
    record { says = ap (λ (s : Said). s.number) e; leaves = p.leaves; gives-length = value-accepted (c.in-Ok.n ∷ []) 0 _ e }
