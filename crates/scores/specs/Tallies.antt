-- What the walk that scores a formula promises. Assumes nothing: these are definitions.
use Rattle.std.specs.Prelude.{◌≡◌, List, ℕ, ◌≤◌, get_or}
use Rattle.lists.specs.Runs.{padded}
use Rattle.limits.specs.Limits.{boards_most}
use Rattle.ltl.specs.Formula.{Formula, size, Within}
use Rattle.network.specs.Scores.{scores_of}
use Rattle.nodes.specs.Begins.{Front}
use Rattle.scores.specs.Owned.{Owned}

-- the counts are the formula's scores, by whatever masks the table of owners belongs to, and 0 for the boards that are not there;
-- none is larger than the formula
pub record ScoredAs (owner : List ℕ) (f : Formula) (counts : List ℕ) : Type 0 where
  pub few : (b : ℕ) → get_or counts b 0 ≤ size f
  pub scores : (p q : ℕ) (masks : List ℕ) → Owned p masks owner → Within p q f → counts ≡ padded boards_most (scores_of masks f)

-- the formula in front was read, and its scores were taken
abbrev pub Tallies : List ℕ → List ℕ → ℕ → List ℕ → Type 0
Tallies owner s read counts = (f : Formula) (rest : List ℕ) → Front s f rest → (read ≡ size f) × ScoredAs owner f counts
