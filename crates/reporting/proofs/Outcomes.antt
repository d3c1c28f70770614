-- One law for each way out of `report`: a length that is wrong (`length_refused`), a run that is not known (`no_run`), and the report
-- (`reported`). What a refusal keeps (`report-keeps`), and that every refusal is some answer's (`report-answers`). Assumes nothing.
use Rattle.std.specs.Prelude.{Result, Ok, Err, ⊤}
use mathlib.Core.Path.{◌≡◌, refl, sym, ap, subst, ◌∙◌}
use mathlib.Core.Bool.{Bool, true, false}
use mathlib.Core.List.{List, [], ◌∷◌}
use Prim.Native.Nat.{ℕ, ◌*◌, ◌<◌, ◌≤◌}
use native.Mathlib.Omega.{arith}
use lib.ListN.{length}
use lib.Seq.{take_all}
use lib.Dec.{eqb}
use borrow.Author.Tests.{eqb-true, leb-true, eq-eqb, ne_eqb}
use Rattle.limits.specs.Limits.{runs_most}
use Rattle.lists.specs.Tests.{pick}
use Rattle.lists.proofs.Tests.{both-0, both-1}
use Rattle.lists.proofs.Listed.{listed-length}
use Rattle.answers.specs.Said.{Said, accepted, refused, refused_with, left}
use Rattle.answers.specs.declared.Refusal.TheVariants.{Length}
use Rattle.answers.proofs.Answers.{order-ok, order-refused, order-done, left-refused, left-accepted}
use Rattle.reports.specs.Runs.{Run, run_length, run_at, run_count, runs_in, known_front}
use Rattle.reports.specs.Bytes.{report_length, report_bytes}
use Rattle.reports.proofs.Known.{front-is}
use Rattle.tallying.specs.declared.RunTables.{RunTables}
use Rattle.tallying.specs.Tables.{TalliedRuns, TallyAsk, Tallies, table_row, RowsAsk}
use Rattle.tallying.proofs.TableRows.{counts-few, table-rows}
use Rattle.reporting.specs.declared.ReportError.{ReportError}
use Rattle.reporting.specs.declared.ReportError.TheVariants.{Refused, NoRun}
use Rattle.reporting.specs.Report.{run_lengths_ok, report_says, report_for, said_report, Reports}

-- what is said where the lengths are right
abbrev pub told_of : List ℕ → Said
told_of s = pick (eqb (known_front (runs_in s)) (length (runs_in s))) (accepted []) (refused_with 19 (known_front (runs_in s) ∷ []))

-- what is said where the lengths are right, by the one test that is left
told-all : (s : List ℕ) → eqb (known_front (runs_in s)) (length (runs_in s)) ≡ true → told_of s ≡ accepted []
unfolding pick
told-all s e = rw e

pub told-place : (s : List ℕ) → eqb (known_front (runs_in s)) (length (runs_in s)) ≡ false → told_of s ≡ refused_with 19 (known_front (runs_in s) ∷ [])
unfolding pick
told-place s e = rw e

-- ---- lengths
pub length_refused : (s report : List ℕ) → run_lengths_ok s (length report) ≡ false → Reports s report report (Err (Refused Length))
unfolding report_says
length_refused s report e =
    let says : refused 1 ≡ report_says s (length report) = sym (order-refused 1 (run_lengths_ok s (length report)) [] (told_of s) e) in
    record { says = says; leaves = sym (ap (λ (a : Said). left a (report_for s) report) (sym says) ∙ left-refused Length (report_for s) report) }

-- ---- runs
module _ (s report : List ℕ) (right : run_lengths_ok s (length report) ≡ true) where
  says-told : report_says s (length report) ≡ told_of s
  unfolding report_says
  says-told = order-ok 1 (run_lengths_ok s (length report)) [] (told_of s) right ∙ order-done (told_of s)

  pub runs-few : run_count s ≤ runs_most
  unfolding run_lengths_ok
  runs-few = let h = leb-true (length s) (run_length * runs_most) (both-1 _ _ (both-1 _ _ right)) in omega arith

  -- the tables of no runs
  pub tally_asks : {t : RunTables} → TalliedRuns [] t → TallyAsk s t
  tally_asks h = record { runs-few = runs-few; none = h }

  module _ {ts : RunTables} {n : ℕ} (t : Tallies s ts n) where
    pub no_run : n < run_count s → Reports s report report (Err (NoRun n))
    unfolding pick left
    no_run h =
        let long = listed-length (run_at s) (run_count s) in
        let f = t.front in
        let says : report_says s (length report) ≡ refused_with 19 (n ∷ []) =
        says-told ∙ told-place s (ne_eqb (known_front (runs_in s)) (length (runs_in s)) (λ e. omega arith)) ∙ ap (λ (k : ℕ). refused_with 19 (k ∷ [])) (sym f) in
        record { says = sym says; leaves = sym (ap (λ (a : Said). left a (report_for s) report) says) }

    module _ (all : run_count s ≤ n) where
      held : TalliedRuns (runs_in s) ts
      held =
          let long = listed-length (run_at s) (run_count s) in
          subst (λ (xs : List Run). TalliedRuns xs ts) (take_all n (runs_in s) (omega arith)) t.tables

      pub rows_asked : RowsAsk report ts
      unfolding run_lengths_ok
      rows_asked =
          let n = listed-length (run_at s) (run_count s) in let f = runs-few in
          record { report-long = eqb-true (length report) report_length (both-0 _ _ right); few = counts-few held (omega arith) }

      pub reported : {report' : List ℕ} → report' ≡ report_bytes (table_row ts) → Reports s report report' (Ok tt)
      reported e =
          let long = listed-length (run_at s) (run_count s) in
          let f = t.front in let h = t.short in
          let whole : known_front (runs_in s) ≡ length (runs_in s) = omega arith in
          let says : report_says s (length report) ≡ accepted [] = says-told ∙ told-all s (eq-eqb (known_front (runs_in s)) (length (runs_in s)) whole) in
          record {
            says = sym says;
            leaves = e ∙ table-rows held (front-is (runs_in s) whole) ∙ sym (ap (λ (a : Said). left a (report_for s) report) says ∙ left-accepted [] (report_for s) report);
          }

-- ---- refusals
pub report-keeps : {s report report' : List ℕ} {a : Result ⊤ ReportError} → Reports s report report' a → 0 < (said_report a).number → report' ≡ report
unfolding left pick
report-keeps {s} {report} {a = a} p h =
    p.leaves ∙ ap (λ (x : Said). left x (report_for s) report) (sym p.says) ∙ rw (ne_eqb (said_report a).number 0 (λ e. omega arith))

-- some answer says so
abbrev SomeAnswer : Said → Type 0
SomeAnswer x = (a : Result ⊤ ReportError) × (0 < (said_report a).number) × (said_report a ≡ x)

pub report-answers : (s : List ℕ) (room : ℕ) → ((report_says s room).number ≡ 0 → ⊥) → SomeAnswer (report_says s room)
unfolding report_says
report-answers s room = go (run_lengths_ok s room) refl (eqb (known_front (runs_in s)) (length (runs_in s))) refl
  where
    go : (b : Bool) → run_lengths_ok s room ≡ b → (k : Bool) → eqb (known_front (runs_in s)) (length (runs_in s)) ≡ k → ((report_says s room).number ≡ 0 → ⊥) → SomeAnswer (report_says s room)
    go false e k f n = (Err (Refused Length), omega arith, sym (order-refused 1 (run_lengths_ok s room) [] (told_of s) e))
    go true e true f n = absurd (n (ap (λ (x : Said). x.number) (order-ok 1 (run_lengths_ok s room) [] (told_of s) e ∙ order-done (told_of s) ∙ told-all s f)))
    go true e false f n = (Err (NoRun (known_front (runs_in s))), omega arith, sym (order-ok 1 (run_lengths_ok s room) [] (told_of s) e ∙ order-done (told_of s) ∙ told-place s f))
