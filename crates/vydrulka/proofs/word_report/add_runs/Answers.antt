-- The place that is told is that of a run. Assumes nothing.
use Rattle.std.proofs.Common.{ap, ◌∙◌}
use Rattle.std.specs.Prelude.{Err}
use Rattle.vydrulka.proofs.Few.{no-run-within}
use Rattle.vydrulka.proofs.word_report.add_runs.Goals as goal

pub no_run-requires : goal.no_run-requires
no_run-requires c =
    let told = c.in-Err-NoRun in
    let place = rw told.is at told.field-0-is in
    no-run-within _ _ _ _ _ (told.is ∙ ap Err place) c.report-answer.ensures
