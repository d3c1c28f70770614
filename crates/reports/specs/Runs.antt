-- What a run is, and the runs that some bytes are. Assumes nothing: these are definitions.
use Rattle.std.specs.Prelude.{ℕ, suc, ◌+◌, ◌*◌, ◌/◌, Bool, List, [], ◌∷◌, length, ltb}
use Rattle.limits.specs.Limits.{rules_most}
use Rattle.lists.specs.Tests.{pick, both}
use Rattle.lists.specs.Listed.{listed}
use Rattle.le.specs.Le.{le_at}

-- one watch as triage counts it
pub record Run : Type 0 where
  pub rule : ℕ
  pub verdict : ℕ
  pub tick : ℕ

-- ---- its bytes: rule, verdict and tick, four bytes each
abbrev pub run_length : ℕ
run_length = 12

-- run i
abbrev pub run_at : List ℕ → ℕ → Run
run_at s i = record { rule = le_at s (run_length * i) 4; verdict = le_at s (run_length * i + 4) 4; tick = le_at s (run_length * i + 8) 4 }

-- how many there are
abbrev pub run_count : List ℕ → ℕ
run_count s = length s / run_length

-- all of them
abbrev pub runs_in : List ℕ → List Run
runs_in s = listed (run_at s) (run_count s)

-- ---- runs that can be counted
-- the rule's number is that of a rule, and the verdict's that of a verdict: false, true or pending
unfoldable pub is_known : Run → Bool
is_known x = both (ltb x.rule rules_most) (ltb x.verdict 3)

-- how many runs in front are known; the place of the first that is not, where there is one
unfoldable pub known_front : List Run → ℕ
known_front [] = 0
known_front (x ∷ xs) = pick (is_known x) (suc (known_front xs)) 0
