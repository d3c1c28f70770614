-- The call's own promise, and its answer as a number. Assumes nothing.
use mathlib.Core.Path.{ap, ◌∙◌}
use Rattle.answers.specs.Said.{Said}
use Rattle.exports.proofs.vydrulka_close.Goals as goal

pub returns : goal.returns
returns c = record { says = c.number_of.ensures ∙ ap (λ (s : Said). s.number) c.close.ensures.says; leaves = c.close.ensures.leaves }
