-- The number of propositions, as the state check finds it. Assumes nothing: these are definitions.
use Rattle.std.specs.Prelude.{ℕ, List}
use Rattle.lists.specs.Tests.{pick}
use Rattle.masks.specs.Masks.{sum_ones}
use Rattle.state.specs.Fields.{masks_in}
use Rattle.state.specs.Clauses.{masks_ok}

-- the number of propositions where the masks follow their rule, else 0
unfoldable pub propositions_in : List ℕ → ℕ
propositions_in s = pick (masks_ok s) (sum_ones (masks_in s)) 0
