-- What may be asked of a list of runs: that each of them can be counted (`AllKnown`), and that they are a night's (`Night`); what the report of
-- a list tells (`ToldBy`), and bytes that are a night's report (`NightOf`). Assumes nothing: these are definitions.
use Rattle.std.specs.Prelude.{◌≡◌, true, List, [], ◌∷◌, ℕ, ◌<◌, ◌≤◌, ◌^◌, length}
use Rattle.limits.specs.Limits.{rules_most, runs_most}
use Rattle.reports.specs.Runs.{Run}
use Rattle.reports.specs.Report.{row_of}
use Rattle.reports.specs.Bytes.{report_bytes, row_in, rows_agree, runs_told}
use Rattle.reports.specs.Rows.{FitsRow}

-- every one of a list has a property
abbrev pub Each : {A : Type 0} → (A → Type 0) → List A → Type 0
Each P [] = Unit {0}
Each P (x ∷ xs) = P x × Each P xs

-- a run whose rule has a row, and whose verdict is the number of one
pub record Known (x : Run) : Type 0 where
  pub rule : x.rule < rules_most
  pub verdict : x.verdict < 3

-- every run of a list is one
abbrev pub AllKnown : List Run → Type 0
AllKnown xs = Each Known xs

-- a run whose tick has 32 bits
abbrev pub Short : Run → Type 0
Short x = x.tick < 2 ^ 32

-- a night's runs: no more than the most, each of them known, each tick of 32 bits
pub record Night (xs : List Run) : Type 0 where
  pub few : length xs ≤ runs_most
  pub known : AllKnown xs
  pub short : Each Short xs

-- ---- reports of nights
-- the bytes t tell what these runs come to: each row of theirs fits its bytes and stands in t, and the rows in t agree and have as many runs in
-- all as there are
pub record ToldBy (t : List ℕ) (xs : List Run) : Type 0 where
  pub fits : (r : ℕ) → FitsRow (row_of xs r)
  pub rows : (r : ℕ) → r < rules_most → row_in t r ≡ row_of xs r
  pub agree : rows_agree t rules_most ≡ true
  pub told : runs_told t rules_most ≡ length xs

-- a night whose report the bytes t are, with as many runs as they tell of
pub record NightOf (t : List ℕ) : Type 0 where
  pub runs : List Run
  pub night : Night runs
  pub told : length runs ≡ runs_told t rules_most
  pub report : report_bytes (row_of runs) ≡ t
