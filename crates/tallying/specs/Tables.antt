-- The tables that runs are counted into: what they hold after some runs, what is asked of them, and the rows that they come to.
-- Assumes nothing: these are definitions.
use Rattle.std.specs.Prelude.{◌≡◌, List, [], ◌∷◌, ◌++◌, ℕ, ◌+◌, ◌*◌, ◌<◌, ◌≤◌, min, max, length, get_or, take, eqb}
use Rattle.lists.specs.Tests.{pick}
use Rattle.limits.specs.Limits.{runs_most, rules_most}
use Rattle.answers.specs.declared.Verdict.{Verdict}
use Rattle.answers.specs.Said.{verdict_number}
use Rattle.reports.specs.declared.Row.{Row}
use Rattle.reports.specs.Runs.{Run, run_count, runs_in, known_front}
use Rattle.reports.specs.Report.{those, came_to, ticks_of, chosen, summed}
use Rattle.reports.specs.Bytes.{report_length}
use Rattle.tallying.specs.declared.RunTables.{RunTables}

-- the highest tick
abbrev pub highest_tick : ℕ
highest_tick = 4294967295

-- where the count of a rule's runs with a verdict stands, by the verdict's number
abbrev pub count_at : ℕ → ℕ → ℕ
count_at v r = rules_most * v + r

-- what an operation chooses of some ticks, where u stands for no ticks
unfoldable pub chosen_from : (ℕ → ℕ → ℕ) → ℕ → List ℕ → ℕ
chosen_from op u ts = pick (eqb (length ts) 0) u (chosen op ts)

-- what they hold after these runs
pub record TalliedRuns (xs : List Run) (t : RunTables) : Type 0 where
  pub counted : (v : Verdict) (r : ℕ) → r < rules_most → get_or t.counts (count_at (verdict_number v) r) 0 ≡ length (those (came_to r v) xs)
  pub first : (r : ℕ) → r < rules_most → get_or t.earliest r 0 ≡ chosen_from min highest_tick (ticks_of r xs)
  pub last : (r : ℕ) → r < rules_most → get_or t.latest r 0 ≡ chosen_from max 0 (ticks_of r xs)
  pub total : (r : ℕ) → r < rules_most → get_or t.sums r 0 ≡ summed (ticks_of r xs)
  pub small : (r : ℕ) → r < rules_most → get_or t.sums r 0 ≤ highest_tick * length xs

-- ---- a run
pub record CountAsk (rule verdict place : ℕ) (t : RunTables) : Type 0 where
  pub rule-few : rule < rules_most
  pub verdict-few : verdict < 3
  pub place_is : place ≡ count_at verdict rule
  pub few : get_or t.counts place 0 < runs_most
  pub room : get_or t.sums rule 0 ≤ highest_tick * runs_most

-- whatever runs the tables held, they hold one more
abbrev pub RunCounted : ℕ → ℕ → ℕ → RunTables → RunTables → Type 0
RunCounted rule verdict tick t t' =
    (xs : List Run) → TalliedRuns xs t → TalliedRuns (xs ++ (record { rule = rule; verdict = verdict; tick = tick } ∷ [])) t'

-- ---- all runs
pub record TallyAsk (s : List ℕ) (t : RunTables) : Type 0 where
  pub runs-few : run_count s ≤ runs_most
  pub none : TalliedRuns [] t

-- the runs in front that are known are counted
pub record Tallies (s : List ℕ) (t' : RunTables) (n : ℕ) : Type 0 where
  pub front : n ≡ known_front (runs_in s)
  pub short : n ≤ run_count s
  pub tables : TalliedRuns (take n (runs_in s)) t'

-- ---- rows
-- what the tables say of a rule
unfoldable pub table_row : RunTables → ℕ → Row
table_row t r =
    record {
      runs = get_or t.counts (count_at 0 r) 0 + get_or t.counts (count_at 1 r) 0 + get_or t.counts (count_at 2 r) 0;
      falses = get_or t.counts (count_at 0 r) 0;
      trues = get_or t.counts (count_at 1 r) 0;
      pendings = get_or t.counts (count_at 2 r) 0;
      earliest = pick (eqb (get_or t.counts (count_at 0 r) 0) 0) 0 (get_or t.earliest r 0);
      latest = get_or t.latest r 0;
      sum = get_or t.sums r 0;
    }

-- no count is above that of all runs
abbrev pub CountsFew : RunTables → Type 0
CountsFew t = (v : Verdict) (r : ℕ) → r < rules_most → get_or t.counts (count_at (verdict_number v) r) 0 ≤ runs_most

pub record RowAsk (rule : ℕ) (t : RunTables) : Type 0 where
  pub rule-few : rule < rules_most
  pub few : CountsFew t

pub record RowsAsk (report : List ℕ) (t : RunTables) : Type 0 where
  pub report-long : length report ≡ report_length
  pub few : CountsFew t
