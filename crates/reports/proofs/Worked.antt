-- Worked rows: what some lists of runs come to, rows added, and rows that agree and that do not. One table, one theorem, `worked-reports`, by
-- computation. Assumes nothing.
use mathlib.Core.Path.{◌≡◌, refl}
use mathlib.Core.Bool.{true, false}
use mathlib.Core.List.{List, [], ◌∷◌}
use Prim.Native.Nat.{ℕ}
use Rattle.lists.specs.Tests.{pick, both}
use Rattle.lists.specs.Listed.{listed}
use Rattle.le.specs.Le.{le, le_at}
use Rattle.reports.specs.declared.Row.{Row}
use Rattle.reports.specs.Runs.{Run, runs_in, is_known, known_front}
use Rattle.reports.specs.Report.{those, of_both, chosen, summed, row_of, added}
use Rattle.reports.specs.Bytes.{row_bytes, row_agrees}

-- a run by its rule, verdict and tick
abbrev run : ℕ → ℕ → ℕ → Run
run r v t = record { rule = r; verdict = v; tick = t }

-- a row by its numbers, in the order of its bytes
abbrev row : ℕ → ℕ → ℕ → ℕ → ℕ → ℕ → ℕ → Row
row n f t p e l s = record { runs = n; falses = f; trues = t; pendings = p; earliest = e; latest = l; sum = s }

-- rule 3: false at 5, 3 and 5, once true, once pending
abbrev third : List Run
third = run 3 0 5 ∷ run 3 1 9 ∷ run 3 0 3 ∷ run 3 2 0 ∷ run 3 0 5 ∷ []

pub record WorkedReports : Type 0 where
  -- no runs
  pub none : (r : ℕ) → row_of [] r ≡ row 0 0 0 0 0 0 0
  -- one run of rule 7, false at tick 5: its row, and that of another rule
  pub one : row_of (run 7 0 5 ∷ []) 7 ≡ row 1 1 0 0 5 5 5
  pub one-other : row_of (run 7 0 5 ∷ []) 6 ≡ row 0 0 0 0 0 0 0
  -- false at tick 0, and not false at all
  pub at_zero : row_of (run 7 0 0 ∷ []) 7 ≡ row 1 1 0 0 0 0 0
  pub not-false : row_of (run 7 1 5 ∷ run 7 2 6 ∷ []) 7 ≡ row 2 0 1 1 0 0 0
  -- five runs of one rule
  pub five : row_of third 3 ≡ row 5 3 1 1 3 5 13
  -- two rules: rule 7 between the runs of rule 3
  pub two-3 : row_of (run 3 0 5 ∷ run 7 0 4 ∷ run 3 0 3 ∷ []) 3 ≡ row 2 2 0 0 3 5 8
  pub two-7 : row_of (run 3 0 5 ∷ run 7 0 4 ∷ run 3 0 3 ∷ []) 7 ≡ row 1 1 0 0 4 4 4
  -- rows added: the two of rule 3 above; and where one has no false, on either side
  pub add : added (row 5 3 1 1 3 5 13) (row 2 2 0 0 3 5 8) ≡ row 7 5 1 1 3 5 21
  pub add-without : added (row 1 1 0 0 9 9 9) (row 2 0 1 1 0 0 0) ≡ row 3 1 1 1 9 9 9
  pub add-to-without : added (row 2 0 1 1 0 0 0) (row 1 1 0 0 9 9 9) ≡ row 3 1 1 1 9 9 9
  -- rows whose numbers agree
  pub agree-five : row_agrees (row 5 3 1 1 3 5 13) ≡ true
  pub agree-none : row_agrees (row 0 0 0 0 0 0 0) ≡ true
  -- three ticks from 3 to 5 have a sum from 11 to 13
  pub agree-least : row_agrees (row 3 3 0 0 3 5 11) ≡ true
  pub sum_low : row_agrees (row 3 3 0 0 3 5 10) ≡ false
  pub sum-high : row_agrees (row 3 3 0 0 3 5 14) ≡ false
  -- one tick is both the earliest and the latest; a tick without a false; a run too many; the earliest behind the latest
  pub one-tick : row_agrees (row 1 1 0 0 2 3 5) ≡ false
  pub tick-without : row_agrees (row 1 0 1 0 0 3 0) ≡ false
  pub run_more : row_agrees (row 6 3 1 1 3 5 13) ≡ false
  pub turned : row_agrees (row 2 2 0 0 5 3 8) ≡ false
  -- the place of the first run that cannot be counted, by its rule or its verdict
  pub rule-256 : known_front (run 255 2 9 ∷ run 256 0 5 ∷ []) ≡ 1
  pub verdict-3 : known_front (run 7 0 5 ∷ run 7 1 5 ∷ run 7 3 5 ∷ []) ≡ 2
  -- bytes: a run and a few more, which are none; a row
  pub bytes_run : runs_in (7 ∷ 0 ∷ 0 ∷ 0 ∷ 2 ∷ 0 ∷ 0 ∷ 0 ∷ 1 ∷ 2 ∷ 0 ∷ 0 ∷ 9 ∷ 9 ∷ []) ≡ run 7 2 513 ∷ []
  pub bytes-row : row_bytes (row 5 3 1 1 3 5 13)
      ≡ 5 ∷ 0 ∷ 0 ∷ 0 ∷ 3 ∷ 0 ∷ 0 ∷ 0 ∷ 1 ∷ 0 ∷ 0 ∷ 0 ∷ 1 ∷ 0 ∷ 0 ∷ 0 ∷ 3 ∷ 0 ∷ 0 ∷ 0 ∷ 5 ∷ 0 ∷ 0 ∷ 0 ∷ 13 ∷ 0 ∷ 0 ∷ 0 ∷ 0 ∷ 0 ∷ 0 ∷ 0 ∷ []

pub worked-reports : WorkedReports
unfolding pick both those of_both chosen summed row_of added row_agrees is_known known_front listed le le_at row_bytes
worked-reports =
    record {
      none = λ r. refl;
      one = refl;
      one-other = refl;
      at_zero = refl;
      not-false = refl;
      five = refl;
      two-3 = refl;
      two-7 = refl;
      add = refl;
      add-without = refl;
      add-to-without = refl;
      agree-five = refl;
      agree-none = refl;
      agree-least = refl;
      sum_low = refl;
      sum-high = refl;
      one-tick = refl;
      tick-without = refl;
      run_more = refl;
      turned = refl;
      rule-256 = refl;
      verdict-3 = refl;
      bytes_run = refl;
      bytes-row = refl;
    }
