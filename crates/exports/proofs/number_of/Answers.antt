-- Each arm answers the number of its own case. No loop. Assumes nothing.
use Rattle.std.specs.Prelude.{Result, ⊤}
use Rattle.answers.specs.declared.Refusal.{Refusal}
use mathlib.Core.Path.{sym, ap, ◌∙◌}
use Rattle.answers.specs.Said.{said_outcome}
use Rattle.exports.proofs.number_of.Goals as goal

pub returns-in-Err : goal.returns-in-Err
returns-in-Err c = c.from.ensures ∙ sym (ap (λ (o : Result ⊤ Refusal). (said_outcome o).number) c.in-Err.is)
