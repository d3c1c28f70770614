-- `rules::checks::formula_ok` meets its contract: what is lent on is what stands behind the masks. No loop. Assumes nothing.
use mathlib.Core.Path.{ap, ◌∙◌}
use Rattle.lists.proofs.Parts.{tail-is}
use Rattle.ltl.specs.Decode.{is_rule}
use Rattle.rules.specs.RuleFile.{file_formula_at}
use Rattle.rules.proofs.checks.formula_ok.Goals as goal

pub returns : goal.returns
returns c = let a = c.args in c.is_rule.ensures ∙ ap (is_rule a.p) (tail-is (file_formula_at a.b) a.file.now)
