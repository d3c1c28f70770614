-- How many propositions boards have. Assumes nothing: this is a definition.
use Rattle.std.specs.Prelude.{List, ℕ, ◌-◌, ◌<◌, ◌≤◌, ◌^◌}
use Rattle.limits.specs.Limits.{propositions_most}
use Rattle.masks.specs.Masks.{union_with}

-- one more than the highest number that any board sees, and 0 where none sees any
pub record HighestSeen (masks : List ℕ) (p : ℕ) : Type 0 where
  pub few : p ≤ propositions_most
  pub none_above : union_with 0 masks < 2 ^ p
  pub seen_below : 0 < p → 2 ^ (p - 1) ≤ union_with 0 masks
