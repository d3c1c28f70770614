-- What `report` answers and leaves. Assumes nothing: these are definitions.
use Rattle.std.specs.Prelude.{◌≡◌, Bool, List, [], ◌∷◌, ℕ, ◌*◌, ◌%◌, length, eqb, leb, Result, Ok, Err, ⊤}
use Rattle.limits.specs.Limits.{runs_most}
use Rattle.lists.specs.Tests.{pick, both}
use Rattle.answers.specs.Said.{Said, accepted, refused, refused_with, number_of, check, in_order, left}
use Rattle.answers.specs.declared.Refusal.TheVariants as refusal
use Rattle.reports.specs.Runs.{run_length, runs_in, known_front}
use Rattle.reports.specs.Report.{row_of}
use Rattle.reports.specs.Bytes.{report_length, report_bytes}
use Rattle.reporting.specs.declared.ReportError.{ReportError}
use Rattle.reporting.specs.declared.ReportError.TheVariants.{Refused, NoRun}

-- 1: the runs are whole ones, and not too many, and the buffer is as long as a report
unfoldable pub run_lengths_ok : List ℕ → ℕ → Bool
run_lengths_ok s room = both (eqb room report_length) (both (eqb (length s % run_length) 0) (leb (length s) (run_length * runs_most)))

-- what is answered of these runs where a buffer of so many bytes is lent; 19 tells the place of the first run that is not known
unfoldable pub report_says : List ℕ → ℕ → Said
report_says s room =
    in_order (check 1 (run_lengths_ok s room) ∷ [])
    (pick (eqb (known_front (runs_in s)) (length (runs_in s))) (accepted []) (refused_with 19 (known_front (runs_in s) ∷ [])))

-- the report of the runs
abbrev pub report_for : List ℕ → List ℕ
report_for s = report_bytes (row_of (runs_in s))

-- the enum's cases by number and values
abbrev pub said_report : Result ⊤ ReportError → Said
said_report (Err (Refused why)) = refused (number_of why)
said_report (Err (NoRun k)) = refused_with (number_of refusal.Run) (k ∷ [])
said_report (Ok _) = accepted []

-- the promise
pub record Reports (runs report report' : List ℕ) (answer : Result ⊤ ReportError) : Type 0 where
  pub says : said_report answer ≡ report_says runs (length report)
  pub leaves : report' ≡ left (report_says runs (length report)) (report_for runs) report
