use mathlib.Core.Path.{sym, ◌∙◌}
use Rattle.records.proofs.Each.{each-false}
use Rattle.records.proofs.records_ok.Goals as goal

pub returns-then-not-record_ok : goal.returns-then-not-record_ok
returns-then-not-record_ok c = sym (each-false _ _ _ c.loop-k-test.true (sym c.record_ok.ensures ∙ c.if-not-record_ok.true))
