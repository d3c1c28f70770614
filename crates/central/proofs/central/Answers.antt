-- One law of proofs/Outcomes.antt for each way out. Assumes nothing.
use mathlib.Core.Path.{sym, ◌∙◌}
use Rattle.nodes.proofs.Wholes.{whole}
use Rattle.central.proofs.Outcomes.{central-passed, refused-length, refused-formula, progressed-rule}
use Rattle.central.proofs.central.Goals as goal

pub returns-then-not-lengths_ok : goal.returns-then-not-lengths_ok
returns-then-not-lengths_ok c = refused-length _ _ _ (sym c.lengths_ok.ensures ∙ c.if-not-lengths_ok.true)

pub returns-then-not-is_rule : goal.returns-then-not-is_rule
returns-then-not-is_rule c = refused-formula _ _ _ (sym c.lengths_ok.ensures ∙ c.if-not-lengths_ok.false) (sym c.is_rule.ensures ∙ c.if-not-is_rule.true)

pub progress_rule-requires : goal.progress_rule-requires
progress_rule-requires c = let w = whole _ (sym c.is_rule.ensures ∙ c.if-not-is_rule.false) in let z = central-passed _ _ (sym c.lengths_ok.ensures ∙ c.if-not-lengths_ok.false) in record { whole = w.formula-is; front = w.front; few = z.few; room = z.room-is }

pub returns : goal.returns
returns c = progressed-rule _ _ _ (sym c.lengths_ok.ensures ∙ c.if-not-lengths_ok.false) (sym c.is_rule.ensures ∙ c.if-not-is_rule.false) c.progress_rule.ensures
