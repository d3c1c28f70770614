-- The report of a list of runs, rule by rule, and of two lists together. Assumes nothing: these are definitions.
use Rattle.std.specs.Prelude.{ℕ, ◌+◌, min, max, Bool, List, [], ◌∷◌, map, length, eqb}
use Rattle.lists.specs.Tests.{pick, both}
use Rattle.answers.specs.declared.Verdict.{Verdict}
use Rattle.answers.specs.declared.Verdict.TheVariants.{False, True, Pending}
use Rattle.answers.specs.Said.{verdict_number}
use Rattle.reports.specs.declared.Row.{Row}
use Rattle.reports.specs.Runs.{Run}

-- ---- the runs of a rule
-- the runs for which a test holds
unfoldable pub those : (Run → Bool) → List Run → List Run
those p [] = []
those p (x ∷ xs) = pick (p x) (x ∷ those p xs) (those p xs)

-- a run of this rule
abbrev pub is_of : ℕ → Run → Bool
is_of r x = eqb x.rule r

-- a run of this rule that came to this verdict
abbrev pub came_to : ℕ → Verdict → Run → Bool
came_to r v x = both (is_of r x) (eqb x.verdict (verdict_number v))

-- the ticks at which the rule was false
abbrev pub ticks_of : ℕ → List Run → List ℕ
ticks_of r xs = map (λ x. x.tick) (those (came_to r False) xs)

-- ---- figures over ticks
-- what an operation picks of m numbers for which a stands, and of n for which b stands: the other's, where one side has none
unfoldable pub of_both : (ℕ → ℕ → ℕ) → ℕ → ℕ → ℕ → ℕ → ℕ
of_both op m a n b = pick (eqb m 0) b (pick (eqb n 0) a (op a b))

-- what it picks of some numbers, the least or the greatest; 0 of none
unfoldable pub chosen : (ℕ → ℕ → ℕ) → List ℕ → ℕ
chosen op [] = 0
chosen op (t ∷ ts) = of_both op 1 t (length ts) (chosen op ts)

unfoldable pub summed : List ℕ → ℕ
summed [] = 0
summed (t ∷ ts) = t + summed ts

-- ---- the report
-- what is said of rule r
unfoldable pub row_of : List Run → ℕ → Row
row_of xs r =
    record {
      runs = length (those (is_of r) xs);
      falses = length (those (came_to r False) xs);
      trues = length (those (came_to r True) xs);
      pendings = length (those (came_to r Pending) xs);
      earliest = chosen min (ticks_of r xs);
      latest = chosen max (ticks_of r xs);
      sum = summed (ticks_of r xs);
    }

-- what is said of a rule where two lists' rows of it are put together
unfoldable pub added : Row → Row → Row
added a b =
    record {
      runs = a.runs + b.runs;
      falses = a.falses + b.falses;
      trues = a.trues + b.trues;
      pendings = a.pendings + b.pendings;
      earliest = of_both min a.falses a.earliest b.falses b.earliest;
      latest = of_both max a.falses a.latest b.falses b.latest;
      sum = a.sum + b.sum;
    }
