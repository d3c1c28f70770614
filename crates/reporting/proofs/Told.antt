-- What an accepted `report` tells: its runs are whole, not too many and known (`report-told`), so they are a night's (`report-night`), and the
-- buffer holds their report (`report-left`). Assumes nothing.
use mathlib.Core.Path.{◌≡◌, refl, sym, ap, ◌∙◌}
use mathlib.Core.Bool.{Bool, true, false}
use mathlib.Core.List.{List, []}
use Prim.Native.Nat.{ℕ, ◌*◌, ◌%◌, ◌≤◌}
use native.Mathlib.Omega.{arith}
use lib.ListN.{length}
use lib.Dec.{eqb}
use borrow.Author.Tests.{eqb-true, leb-true, eq-eqb}
use Rattle.limits.specs.Limits.{runs_most}
use Rattle.lists.specs.Tests.{pick}
use Rattle.lists.proofs.Listed.{listed-length}
use Rattle.lists.proofs.Tests.{both-0, both-1}
use Rattle.le.proofs.Laws.{Bytes}
use Rattle.answers.specs.Said.{Said, left}
use Rattle.answers.proofs.Answers.{order-ok, order-refused, order-done}
use Rattle.reports.specs.Runs.{run_length, run_at, run_count, runs_in, known_front}
use Rattle.reports.specs.Bytes.{report_length}
use Rattle.reports.specs.Nights.{AllKnown, Night}
use Rattle.reports.proofs.Known.{front-is}
use Rattle.reports.proofs.RunBytes.{runs-short}
use Rattle.reporting.specs.Report.{run_lengths_ok, report_says, report_for}
use Rattle.reporting.proofs.Outcomes.{told_of, told-place}

pub record ReportTold (s : List ℕ) (room : ℕ) : Type 0 where
  pub room-right : room ≡ report_length
  pub whole : length s % run_length ≡ 0
  pub few : length (runs_in s) ≤ runs_most
  pub known : AllKnown (runs_in s)

module _ (s : List ℕ) (room : ℕ) (accepts : (report_says s room).number ≡ 0) where
  lengths : (b : Bool) → run_lengths_ok s room ≡ b → b ≡ true
  unfolding report_says
  lengths true e = refl
  lengths false e =
      let z : ◌≡◌ {A = ℕ} 1 0 = sym (ap (λ (a : Said). a.number) (order-refused 1 (run_lengths_ok s room) [] (told_of s) e)) ∙ accepts in
      absurd (omega arith)

  lengths-ok : run_lengths_ok s room ≡ true
  lengths-ok = lengths (run_lengths_ok s room) refl

  fronted : (b : Bool) → eqb (known_front (runs_in s)) (length (runs_in s)) ≡ b → b ≡ true
  unfolding report_says
  fronted true e = refl
  fronted false e =
      let told = order-ok 1 (run_lengths_ok s room) [] (told_of s) lengths-ok ∙ order-done (told_of s) ∙ told-place s e in
      let z : ◌≡◌ {A = ℕ} 19 0 = sym (ap (λ (a : Said). a.number) told) ∙ accepts in
      absurd (omega arith)

  pub report-told : ReportTold s room
  unfolding run_lengths_ok
  report-told =
      let l = lengths-ok in
      let n = listed-length (run_at s) (run_count s) in
      let most = leb-true (length s) (run_length * runs_most) (both-1 _ _ (both-1 _ _ l)) in
      record {
        room-right = eqb-true room report_length (both-0 _ _ l);
        whole = eqb-true (length s % run_length) 0 (both-0 _ _ (both-1 _ _ l));
        few = omega arith;
        known = front-is (runs_in s) (eqb-true (known_front (runs_in s)) (length (runs_in s)) (fronted (eqb (known_front (runs_in s)) (length (runs_in s))) refl));
      }

  -- so they are a night's
  pub report-night : Bytes s → Night (runs_in s)
  report-night b = let t = report-told in record { few = t.few; known = t.known; short = runs-short s b }

-- what stands in the buffer
pub report-left : (s report : List ℕ) {e : List ℕ} → (report_says s (length report)).number ≡ 0 → e ≡ left (report_says s (length report)) (report_for s) report → e ≡ report_for s
unfolding left pick
report-left s report z l = l ∙ rw (eq-eqb (report_says s (length report)).number 0 z)
