-- The bytes of runs, the other way round: those that a list of runs is written with. Assumes nothing: these are definitions.
use Rattle.std.specs.Prelude.{ℕ, ◌<◌, ◌^◌, List, [], ◌∷◌, ◌++◌}
use Rattle.le.specs.Le.{le}
use Rattle.reports.specs.Runs.{Run}

-- each number of the run has 32 bits
pub record FitsRun (x : Run) : Type 0 where
  pub rule : x.rule < 2 ^ 32
  pub verdict : x.verdict < 2 ^ 32
  pub tick : x.tick < 2 ^ 32

-- rule, verdict and tick, four bytes each
unfoldable pub one_run : Run → List ℕ
one_run x = le 4 x.rule ++ (le 4 x.verdict ++ le 4 x.tick)

-- one run behind the other
unfoldable pub run_bytes : List Run → List ℕ
run_bytes [] = []
run_bytes (x ∷ xs) = one_run x ++ run_bytes xs
