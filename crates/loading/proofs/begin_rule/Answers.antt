-- A rule with nothing to fold is folded as it stands. Assumes nothing.
use mathlib.Core.Path.{sym, ◌∙◌}
use Rattle.loading.proofs.Foldings.{bare-begun}
use Rattle.loading.proofs.begin_rule.Goals as goal

pub returns-then-is_bare : goal.returns-then-is_bare
returns-then-is_bare c = bare-begun (sym c.is_bare.ensures ∙ c.if-is_bare.true) c.begin.ensures
