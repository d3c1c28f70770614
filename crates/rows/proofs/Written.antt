-- Rows put one behind the other, from the front of a report: those of the rules below r stand there, and behind them what stood there before
-- (`rows_none`, `rows_more`, `rows-done`); the next row is still the old one (`row_next`). Assumes nothing.
use mathlib.Core.Path.{◌≡◌, refl, sym, ap, ap₂, ◌∙◌}
use mathlib.Core.List.{List, ◌++◌, append-nil}
use Prim.Native.Nat.{ℕ, ◌+◌, ◌*◌}
use native.Mathlib.Numerals.{add-one}
use native.Mathlib.Omega.{arith}
use lib.ListN.{length, take, drop, drop_of_length-le}
use Rattle.limits.specs.Limits.{rules_most}
use Rattle.lists.proofs.Stretches.{put_next}
use Rattle.le.specs.Le.{le_at}
use Rattle.le.proofs.Laws.{le_at-drop}
use Rattle.reports.specs.declared.Row.{Row}
use Rattle.reports.specs.Bytes.{row_length, report_length, row_bytes, rows_of, report_bytes, row_at, row_in}
use Rattle.reports.proofs.ReadBack.{rows-length, row_same, row-behind}

module _ (f : ℕ → Row) (report : List ℕ) where
  pub rows_none : report ≡ rows_of f 0 ++ drop (row_length * 0) report
  unfolding rows_of
  rows_none = refl

  pub rows_more : {t u : List ℕ} {r : ℕ} {w : Row} → t ≡ rows_of f r ++ drop (row_length * r) report → w ≡ f r
      → u ≡ take (row_length * r) t ++ (row_bytes w ++ drop (row_length * r + row_length) t) → u ≡ rows_of f (r + 1) ++ drop (row_length * (r + 1)) report
  unfolding rows_of
  rows_more {t} {u} {r} {w} e same put =
      let step : row_length * r + row_length ≡ row_length * (r + 1) = omega arith in
      put ∙ put_next t report (rows_of f r) (row_bytes w) (row_length * r) row_length e (rows-length f r)
      ∙ ap₂ (λ (x : Row) (k : ℕ). (rows_of f r ++ row_bytes x) ++ drop k report) same step
      ∙ ap (λ (k : ℕ). rows_of f k ++ drop (row_length * (r + 1)) report) (sym (add-one r))

  pub rows-done : {t : List ℕ} {r : ℕ} → length report ≡ report_length → r ≡ rules_most → t ≡ rows_of f r ++ drop (row_length * r) report → t ≡ report_bytes f
  rows-done {r = r} long e is =
      is ∙ ap₂ (λ (k : ℕ) (l : List ℕ). rows_of f k ++ l) e (drop_of_length-le report {i = row_length * r} (omega arith)) ∙ append-nil (rows_of f rules_most)

  pub row_next : {t : List ℕ} (r : ℕ) → t ≡ rows_of f r ++ drop (row_length * r) report → row_at t (row_length * r) ≡ row_in report r
  row_next r e =
      ap (λ (x : List ℕ). row_at x (row_length * r)) e
      ∙ row-behind (rows_of f r) (drop (row_length * r) report) (row_length * r) (sym (rows-length f r))
      ∙ row_same (drop (row_length * r) report) report 0 (row_length * r) (λ k n l. let z : 0 + k ≡ k = omega arith in ap (λ (j : ℕ). le_at (drop (row_length * r) report) j n) z ∙ le_at-drop (row_length * r) report k n)
