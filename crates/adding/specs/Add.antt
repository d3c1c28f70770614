-- What `add` answers and leaves. Assumes nothing: these are definitions.
use Rattle.answers.specs.declared.Refusal.{Refusal}
use Rattle.std.specs.Prelude.{◌≡◌, Bool, true, List, [], ◌∷◌, ℕ, ◌+◌, ◌*◌, ◌≤◌, length, eqb, leb, Result, ⊤}
use Rattle.limits.specs.Limits.{runs_most, rules_most}
use Rattle.lists.specs.Tests.{both}
use Rattle.answers.specs.Said.{Said, accepted, check, in_order, left, said_outcome}
use Rattle.reports.specs.declared.Row.{Row}
use Rattle.reports.specs.Report.{added}
use Rattle.reports.specs.Bytes.{report_length, report_bytes, row_in, rows_agree, runs_told}
use Rattle.adding.specs.declared.Survey.{Survey}

-- 1: both are as long as a report
unfoldable pub reports_long : List ℕ → List ℕ → Bool
reports_long total night = both (eqb (length total) report_length) (eqb (length night) report_length)

-- 3: they have not too many runs together
unfoldable pub runs_together : List ℕ → List ℕ → Bool
runs_together total night = leb (runs_told total rules_most + runs_told night rules_most) runs_most

-- 4: the numbers of all rows agree
unfoldable pub both_agree : List ℕ → List ℕ → Bool
both_agree total night = both (rows_agree total rules_most) (rows_agree night rules_most)

-- what is answered
unfoldable pub add_says : List ℕ → List ℕ → Said
add_says total night =
    in_order (check 1 (reports_long total night) ∷ check 3 (runs_together total night) ∷ check 4 (both_agree total night) ∷ []) (accepted [])

-- the row of a rule in both
abbrev pub sum_row : List ℕ → List ℕ → ℕ → Row
sum_row total night r = added (row_in total r) (row_in night r)

-- both added up
abbrev pub sum_for : List ℕ → List ℕ → List ℕ
sum_for total night = report_bytes (sum_row total night)

-- the promise
pub record AddsReport (total night total' : List ℕ) (answer : Result ⊤ Refusal) : Type 0 where
  pub says : said_outcome answer ≡ add_says total night
  pub leaves : total' ≡ left (add_says total night) (sum_for total night) total

-- ---- below the call
-- what a look at all rows has found
pub record Surveyed (report : List ℕ) (s : Survey) : Type 0 where
  pub runs : s.runs ≡ runs_told report rules_most
  pub agrees : s.agrees ≡ rows_agree report rules_most
  pub few : s.runs ≤ 4294967295 * rules_most

-- all checks have passed
pub record AddAsk (total night : List ℕ) : Type 0 where
  pub total-long : length total ≡ report_length
  pub night-long : length night ≡ report_length
  pub few : runs_told total rules_most + runs_told night rules_most ≤ runs_most
  pub total-agrees : rows_agree total rules_most ≡ true
  pub night-agrees : rows_agree night rules_most ≡ true
