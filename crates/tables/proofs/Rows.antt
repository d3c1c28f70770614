-- The rows of a report: the lines of the rows so far (`lines_more`), and what the rows come to in all. Assumes nothing.
use mathlib.Core.Path.{◌≡◌, refl, ap, ◌∙◌}
use mathlib.Core.List.{List, ◌++◌, append_assoc}
use Prim.Native.Nat.{ℕ, ◌+◌, ◌≤◌}
use native.Mathlib.Omega.{arith}
use native.Mathlib.Numerals.{add-one}
use lib.Dec.{eqb}
use Rattle.lists.proofs.Tests.{pick-elim}
use Rattle.reports.specs.declared.Row.{Row}
use Rattle.reports.specs.Bytes.{row_in, runs_told}
use Rattle.reports.specs.Rows.{sum_below}
use Rattle.reports.proofs.Sums.{sum_more}
use Rattle.tables.specs.declared.Sheet.{Sheet}
use Rattle.tables.specs.Pages.{row_line, lines_below, ran_once, ran_below}

-- ---- the lines of the rows so far
-- one row more behind those that are put
pub lines_more : (sheet : Sheet) (s page reached page' : List ℕ) (n : ℕ) → reached ≡ page ++ lines_below sheet s n
    → page' ≡ reached ++ row_line sheet n (row_in s n) → page' ≡ page ++ lines_below sheet s (n + 1)
unfolding lines_below
lines_more sheet s page reached page' n p q =
    rw (add-one n) (q ∙ rw p (append_assoc page (lines_below sheet s n) (row_line sheet n (row_in s n))))

-- ---- what they come to
module _ (s : List ℕ) (n : ℕ) (row : Row) (is : row ≡ row_in s n) where
  pub runs-more : (runs : ℕ) → runs ≡ runs_told s n → runs + row.runs ≡ runs_told s (n + 1)
  runs-more runs e = sum_more (λ r. (row_in s r).runs) n e (ap (λ (x : Row). x.runs) is)

  pub rules-more : (rules once : ℕ) → rules ≡ ran_below s n → once ≡ ran_once row.runs → rules + once ≡ ran_below s (n + 1)
  rules-more rules once e h = sum_more (λ r. ran_once (row_in s r).runs) n e (h ∙ ap (λ (x : Row). ran_once x.runs) is)

pub once-few : (runs once : ℕ) → once ≡ ran_once runs → once ≤ 1
unfolding ran_once
once-few runs once e = rw e (pick-elim (λ (k : ℕ). k ≤ 1) (eqb runs 0) 0 1 (λ q. omega arith) (λ q. omega arith))

pub totals-none : (s : List ℕ) → (0 ≡ runs_told s 0) × (0 ≡ ran_below s 0)
unfolding sum_below
totals-none s = (refl, refl)
