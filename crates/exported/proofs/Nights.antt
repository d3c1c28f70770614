-- Nights over the calls' promises. What `report` has left does not depend on the order of the runs (`reports-reordered`). What `add` leaves of two
-- reports is what `report` leaves of the two lists, one behind the other, where they have no more than 65,536 runs together (`reports-added`),
-- and else it is 3 (`reports-too-many`). From C the same (`c-reports-reordered`, `c-reports-added`, `c-reports-too-many`). Assumes nothing.
use Rattle.std.specs.Prelude.{Result, Ok, Err, ⊤}
use Rattle.answers.specs.declared.Refusal.{Refusal}
use mathlib.Core.Path.{◌≡◌, sym, ap, ap₂, ◌∙◌}
use mathlib.Core.List.{List, [], ◌++◌}
use Prim.Native.Nat.{ℕ, ◌+◌, ◌/◌, ◌<◌, ◌≤◌}
use native.Mathlib.Omega.{arith}
use lib.ListN.{length}
use Rattle.limits.specs.Limits.{rules_most, runs_most}
use Rattle.le.proofs.Laws.{Bytes}
use Rattle.answers.specs.Said.{Said, accepted, refused, left}
use Rattle.answers.specs.declared.Refusal.TheVariants.{Range}
use Rattle.answers.proofs.Answers.{said_outcome-injective, left-accepted}
use Rattle.reports.specs.Runs.{run_length, runs_in}
use Rattle.reports.specs.Report.{row_of}
use Rattle.reports.specs.Bytes.{report_bytes}
use Rattle.reports.specs.Order.{Reordered}
use Rattle.reports.specs.Nights.{Night}
use Rattle.reports.proofs.Order.{order-free}
use Rattle.reports.proofs.ReadBack.{rows_same}
use Rattle.reports.proofs.RunBytes.{runs-both}
use Rattle.reporting.specs.Report.{report_says, report_for, Reports}
use Rattle.reporting.proofs.Told.{report-told, report-night, report-left}
use Rattle.adding.specs.Add.{add_says, sum_for, AddsReport}
use Rattle.adding.proofs.Lists.{add-too-many, add-accepted, add-lists}
use Rattle.exported.specs.Exported.{ReportExported, AddExported}

-- ---- a list whose report was accepted, and what that left
pub record ReportKept (runs report : List ℕ) : Type 0 where
  pub room : ℕ
  pub accepts : (report_says runs room).number ≡ 0
  pub leaves : report ≡ report_for runs

pub accepted-of : {runs report report' : List ℕ} → Reports runs report report' (Ok tt) → ReportKept runs report'
accepted-of {runs} {report} p =
    let z = sym (ap (λ (a : Said). a.number) p.says) in
    record { room = length report; accepts = z; leaves = report-left runs report z p.leaves }

pub accepted-from-c : {runs report report' : List ℕ} {place place' : ℕ} → ReportExported runs report report' place place' 0 → ReportKept runs report'
accepted-from-c {runs} {report} p = record { room = length report; accepts = sym p.says; leaves = report-left runs report (sym p.says) p.leaves }

-- ---- order
same-report : {a b ra rb : List ℕ} → ReportKept a ra → ReportKept b rb → Reordered (runs_in a) (runs_in b) → ra ≡ rb
same-report {a} {b} x y o = x.leaves ∙ rows_same (row_of (runs_in a)) (row_of (runs_in b)) rules_most (λ r h. order-free o r) ∙ sym y.leaves

pub reports-reordered : {a b da db ra rb : List ℕ} → Reports a da ra (Ok tt) → Reports b db rb (Ok tt) → Reordered (runs_in a) (runs_in b) → ra ≡ rb
reports-reordered x y = same-report (accepted-of x) (accepted-of y)

pub c-reports-reordered : {a b da db ra rb : List ℕ} {p p' q q' : ℕ} → ReportExported a da ra p p' 0 → ReportExported b db rb q q' 0 → Reordered (runs_in a) (runs_in b) → ra ≡ rb
c-reports-reordered x y = same-report (accepted-from-c x) (accepted-from-c y)

-- ---- adding up
module _ {a b ra rb : List ℕ} (x : ReportKept a ra) (y : ReportKept b rb) (a-bytes : Bytes a) (b-bytes : Bytes b) where
  first : Night (runs_in a)
  first = report-night a x.room x.accepts a-bytes

  second : Night (runs_in b)
  second = report-night b y.room y.accepts b-bytes

  -- both lists, one behind the other
  both-lists : runs_in (a ++ b) ≡ runs_in a ++ runs_in b
  both-lists = let w = (report-told a x.room x.accepts).whole in runs-both a b (length a / run_length) (omega arith)

  add-says : length (runs_in a) + length (runs_in b) ≤ runs_most → add_says ra rb ≡ accepted []
  add-says h = ap₂ add_says x.leaves y.leaves ∙ add-accepted (runs_in a) (runs_in b) first second h

  add-leaves : sum_for ra rb ≡ report_for (a ++ b)
  add-leaves =
      ap₂ sum_for x.leaves y.leaves ∙ add-lists (runs_in a) (runs_in b) first second ∙ ap (λ l. report_bytes (row_of l)) (sym both-lists)

  add-refuses : runs_most < length (runs_in a) + length (runs_in b) → add_says ra rb ≡ refused 3
  add-refuses h = ap₂ add_says x.leaves y.leaves ∙ add-too-many (runs_in a) (runs_in b) first second h

  -- what is left where the sum is accepted
  sum_left : {total : List ℕ} → length (runs_in a) + length (runs_in b) ≤ runs_most → total ≡ left (add_says ra rb) (sum_for ra rb) ra → total ≡ report_for (a ++ b)
  sum_left h e = e ∙ ap (λ (s : Said). left s (sum_for ra rb) ra) (add-says h) ∙ left-accepted _ (sum_for ra rb) ra ∙ add-leaves

module _ {a b da db ra rb : List ℕ} (x : Reports a da ra (Ok tt)) (y : Reports b db rb (Ok tt)) (a-bytes : Bytes a) (b-bytes : Bytes b) {total : List ℕ} {answer : Result ⊤ Refusal}
    (z : AddsReport ra rb total answer) where
  pub reports-added : length (runs_in a) + length (runs_in b) ≤ runs_most → (answer ≡ Ok tt) × (total ≡ report_for (a ++ b))
  reports-added h =
      let p = accepted-of x in let q = accepted-of y in
      (said_outcome-injective answer (Ok tt) (z.says ∙ add-says p q a-bytes b-bytes h), sum_left p q a-bytes b-bytes h z.leaves)

  pub reports-too-many : runs_most < length (runs_in a) + length (runs_in b) → answer ≡ Err Range
  reports-too-many h = said_outcome-injective answer (Err Range) (z.says ∙ add-refuses (accepted-of x) (accepted-of y) a-bytes b-bytes h)

module _ {a b da db ra rb : List ℕ} {p p' q q' : ℕ} (x : ReportExported a da ra p p' 0) (y : ReportExported b db rb q q' 0) (a-bytes : Bytes a) (b-bytes : Bytes b)
    {total : List ℕ} {n : ℕ} (z : AddExported ra rb total n) where
  pub c-reports-added : length (runs_in a) + length (runs_in b) ≤ runs_most → (n ≡ 0) × (total ≡ report_for (a ++ b))
  c-reports-added h =
      let s = accepted-from-c x in let t = accepted-from-c y in
      (z.says ∙ ap (λ (r : Said). r.number) (add-says s t a-bytes b-bytes h), sum_left s t a-bytes b-bytes h z.leaves)

  pub c-reports-too-many : runs_most < length (runs_in a) + length (runs_in b) → n ≡ 3
  c-reports-too-many h = z.says ∙ ap (λ (r : Said). r.number) (add-refuses (accepted-from-c x) (accepted-from-c y) a-bytes b-bytes h)
