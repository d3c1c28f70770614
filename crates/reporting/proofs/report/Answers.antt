-- The way out with the report; the others are found with the laws of Outcomes that `report` names. No loop. Assumes nothing.
use mathlib.Core.Path.{sym, ◌∙◌}
use Rattle.reporting.proofs.Outcomes.{reported}
use Rattle.reporting.proofs.report.Goals as goal

pub returns : goal.returns
returns c = reported _ _ (sym c.lengths_fit.ensures ∙ c.if-not-lengths_fit.false) c.tally-n.ensures c.if-n-runs.false c.put_rows.ensures
