-- What `add` comes to, over lists of runs. Of the reports of two lists it is the report of both, where they have no more than 65,536 runs
-- together (`add-lists`), and else 3 (`add-too-many`). And it accepts nothing but reports of lists (`add-of-lists`). Assumes nothing.
use mathlib.Core.Path.{◌≡◌, sym, ap₂, ◌∙◌}
use mathlib.Core.Bool.{true}
use mathlib.Core.List.{List, [], ◌∷◌, ◌++◌}
use Prim.Native.Nat.{ℕ, ◌+◌, ◌<◌, ◌≤◌}
use native.Mathlib.Omega.{arith}
use lib.ListN.{length}
use borrow.Author.Tests.{eq-eqb, eqb-true, le-leb, leb-true, lt-leb}
use Rattle.limits.specs.Limits.{runs_most, rules_most}
use Rattle.lists.proofs.Tests.{both-0, both-1, both_true}
use Rattle.le.proofs.Laws.{Bytes}
use Rattle.answers.specs.Said.{accepted, refused, check}
use Rattle.answers.proofs.Answers.{order-ok, order-refused, order-done, order-passed}
use Rattle.reports.specs.Runs.{Run}
use Rattle.reports.specs.Report.{added, row_of}
use Rattle.reports.specs.Bytes.{report_bytes, runs_told}
use Rattle.reports.specs.Nights.{Night, NightOf}
use Rattle.reports.proofs.Adding.{report-both}
use Rattle.reports.proofs.Agreeing.{lists_agree}
use Rattle.reports.proofs.ReadBack.{report-length, rows_same}
use Rattle.reports.proofs.SomeList.{some-list}
use Rattle.adding.specs.Add.{reports_long, runs_together, both_agree, add_says, sum_row, sum_for}

-- the report of a list
abbrev pub report_of : List Run → List ℕ
report_of xs = report_bytes (row_of xs)

module _ (xs ys : List Run) (first : Night xs) (second : Night ys) where
  -- ---- the checks
  long : reports_long (report_of xs) (report_of ys) ≡ true
  unfolding reports_long
  long = both_true _ _ (eq-eqb _ _ (report-length (row_of xs))) (eq-eqb _ _ (report-length (row_of ys)))

  agree : both_agree (report_of xs) (report_of ys) ≡ true
  unfolding both_agree
  agree = both_true _ _ (lists_agree xs first).agree (lists_agree ys second).agree

  together : runs_told (report_of xs) rules_most + runs_told (report_of ys) rules_most ≡ length xs + length ys
  together = ap₂ ◌+◌ (lists_agree xs first).told (lists_agree ys second).told

  -- ---- too many
  pub add-too-many : runs_most < length xs + length ys → add_says (report_of xs) (report_of ys) ≡ refused 3
  unfolding add_says runs_together
  add-too-many h =
      let t = together in
      order-ok 1 _ _ _ long ∙ order-refused 3 _ _ _ (lt-leb (runs_told (report_of xs) rules_most + runs_told (report_of ys) rules_most) runs_most (omega arith))

  -- ---- the sum
  pub add-accepted : length xs + length ys ≤ runs_most → add_says (report_of xs) (report_of ys) ≡ accepted []
  unfolding add_says runs_together
  add-accepted h =
      let t = together in
      order-ok 1 _ _ _ long
      ∙ order-ok 3 _ _ _ (le-leb (runs_told (report_of xs) rules_most + runs_told (report_of ys) rules_most) runs_most (omega arith))
      ∙ order-ok 4 _ _ _ agree
      ∙ order-done (accepted [])

  pub add-lists : sum_for (report_of xs) (report_of ys) ≡ report_of (xs ++ ys)
  add-lists =
      rows_same (sum_row (report_of xs) (report_of ys)) (row_of (xs ++ ys)) rules_most
      (λ r h. ap₂ added ((lists_agree xs first).rows r h) ((lists_agree ys second).rows r h) ∙ sym (report-both xs ys r))

-- ---- nothing else is accepted
pub record OfLists (total night : List ℕ) : Type 0 where
  pub total_of : NightOf total
  pub night-of : NightOf night
  pub sum : sum_for total night ≡ report_of (total_of.runs ++ night-of.runs)

pub add-of-lists : (total night : List ℕ) → Bytes total → Bytes night → (add_says total night).number ≡ 0 → OfLists total night
unfolding add_says reports_long runs_together both_agree
add-of-lists total night a b e =
    let p = order-passed (check 1 (reports_long total night) ∷ check 3 (runs_together total night) ∷ check 4 (both_agree total night) ∷ []) (accepted []) (omega arith, (omega arith, (omega arith, tt))) e in
    let few = leb-true (runs_told total rules_most + runs_told night rules_most) runs_most p.1.0 in
    let x = some-list total a (eqb-true _ _ (both-0 _ _ p.0)) (both-0 _ _ p.1.1.0) (omega arith) in
    let y = some-list night b (eqb-true _ _ (both-1 _ _ p.0)) (both-1 _ _ p.1.1.0) (omega arith) in
    record {
      total_of = x;
      night-of = y;
      sum = ap₂ sum_for (sym x.report) (sym y.report) ∙ add-lists x.runs y.runs x.night y.night;
    }
