-- A formula with nothing to fold is folded as it stands. Assumes nothing.
use mathlib.Core.Path.{sym, ◌∙◌}
use Rattle.central.proofs.Foldings.{bare-given}
use Rattle.central.proofs.progress_rule.Goals as goal

pub returns-then-is_bare : goal.returns-then-is_bare
returns-then-is_bare c = bare-given (sym c.is_bare.ensures ∙ c.if-is_bare.true) c.progress_folded.ensures
