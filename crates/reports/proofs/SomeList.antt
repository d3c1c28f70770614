-- Bytes whose rows agree, and that tell of no more runs than a night has, are a night's report (`some-list`). The night is, rule after rule
-- (`night_to`), some runs that have the rule's row (`runs_for`). They add nothing to the rows of other rules, so that each row of the whole is that of
-- its rule's runs (`night-row`), which is the one in the bytes; and the bytes are what is written of their rows (`report-is`). There are as many
-- runs as the bytes tell of, since the runs of all rows are those of the list (`runs-all`). Assumes nothing.
use mathlib.Core.Path.{◌≡◌, sym, ap, ◌∙◌}
use mathlib.Core.Bool.{true}
use mathlib.Core.Logic.{⊎_elim}
use mathlib.Core.List.{List, [], ◌++◌}
use Prim.Native.Nat.{ℕ, zero, suc, ◌*◌, ◌<◌, ◌≤◌}
use native.Mathlib.Nat.{eq-or-lt_of_le, le_of_suc-le-suc}
use native.Mathlib.Omega.{arith}
use lib.ListN.{length}
use Rattle.limits.specs.Limits.{rules_most, runs_most}
use Rattle.le.proofs.Laws.{Bytes}
use Rattle.reports.specs.declared.Row.{Row}
use Rattle.reports.specs.Runs.{Run}
use Rattle.reports.specs.Report.{row_of, added}
use Rattle.reports.specs.Bytes.{row_length, report_length, row_in, rows_agree, runs_told}
use Rattle.reports.specs.Rows.{empty_row}
use Rattle.reports.specs.Nights.{Each, Known, AllKnown, Short, NightOf}
use Rattle.reports.proofs.Sums.{sum_same}
use Rattle.reports.proofs.Each.{each_both}
use Rattle.reports.proofs.Adding.{report-both, row-none, added_none, added-to-none}
use Rattle.reports.proofs.Known.{runs-all}
use Rattle.reports.proofs.Agrees.{Agrees, agrees-is}
use Rattle.reports.proofs.ReadBack.{rows_same, row_fits, report-is, agree-is}
use Rattle.reports.proofs.OneRule.{runs_for, row-for, row-elsewhere, runs-for-known, runs-for-short}

-- ---- the runs of rule after rule
-- those of the rules below n
unfoldable pub night_to : (ℕ → List Run) → ℕ → List Run
night_to g zero = []
night_to g (suc n) = night_to g n ++ g n

night-each : (P : Run → Type 0) (g : ℕ → List Run) (n : ℕ) → ((r : ℕ) → r < n → Each P (g r)) → Each P (night_to g n)
unfolding night_to
night-each P g zero h = tt
night-each P g (suc n) h = each_both P (night_to g n) (g n) (night-each P g n (λ r l. h r (omega arith))) (h n (omega arith))

-- where no rule's runs are of another
module _ (g : ℕ → List Run) (apart : (r q : ℕ) → (r ≡ q → ⊥) → row_of (g r) q ≡ empty_row) where
  night-past : (n q : ℕ) → n ≤ q → row_of (night_to g n) q ≡ empty_row
  unfolding night_to
  night-past zero q l = row-none q
  night-past (suc n) q l =
      report-both (night_to g n) (g n) q
      ∙ ap (added (row_of (night_to g n) q)) (apart n q (λ e. omega arith))
      ∙ added_none (night_to g n) q
      ∙ night-past n q (omega arith)

  night-row : (n q : ℕ) → q < n → row_of (night_to g n) q ≡ row_of (g q) q
  unfolding night_to
  night-row zero q l = absurd (omega arith)
  night-row (suc n) q l =
      report-both (night_to g n) (g n) q
      ∙ ⊎_elim
      (λ e. ap (λ (w : Row). added w (row_of (g n) q)) (night-past n q (omega arith)) ∙ added-to-none (g n) q ∙ ap (λ (r : ℕ). row_of (g r) q) (sym e))
      (λ h. ap (added (row_of (night_to g n) q)) (apart n q (λ e. omega arith)) ∙ added_none (night_to g n) q ∙ night-row n q h)
      (eq-or-lt_of_le (le_of_suc-le-suc l))

-- ---- the bytes
-- for each rule some runs that have its row
abbrev pub runs_by : List ℕ → ℕ → List Run
runs_by t r = runs_for r (row_in t r)

pub some-list : (t : List ℕ) → Bytes t → length t ≡ report_length → rows_agree t rules_most ≡ true → runs_told t rules_most ≤ runs_most → NightOf t
some-list t bytes long agree few =
    record {
      runs = xs;
      night = record { few = omega (arith, told); known = known; short = short };
      told = told;
      report = rows_same (row_of xs) (row_in t) rules_most row ∙ report-is t bytes long;
    }
  where
    xs : List Run
    xs = night_to (runs_by t) rules_most

    agrees : (r : ℕ) → r < rules_most → Agrees (row_in t r)
    agrees r l = agrees-is (row_in t r) (agree-is t rules_most agree r l)

    row : (r : ℕ) → r < rules_most → row_of xs r ≡ row_in t r
    row r l = night-row (runs_by t) (λ q. row-elsewhere q (row_in t q)) rules_most r l ∙ row-for r (row_in t r) (agrees r l)

    known : AllKnown xs
    known = night-each Known (runs_by t) rules_most (λ r l. runs-for-known r (row_in t r) l)

    short : Each Short xs
    short = night-each Short (runs_by t) rules_most (λ r l. runs-for-short r (row_in t r) (agrees r l) (row_fits t (row_length * r) bytes).latest)

    told : length xs ≡ runs_told t rules_most
    told = sym (runs-all xs known) ∙ sum_same _ _ rules_most (λ r l. ap (λ (w : Row). w.runs) (row r l))
