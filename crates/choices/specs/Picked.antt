-- The choice of two parts together, as a number. Assumes nothing: these are definitions.
use Rattle.std.specs.Prelude.{◌≡◌, ℕ, List, length}
use Rattle.limits.specs.Limits.{boards_most}
use Rattle.scores.specs.Scored.{added}
use Rattle.scores.specs.Choice.{picked_by}

-- r is what the sums choose, where a and b are the choices of the parts that were added
abbrev pub Together : ℕ → ℕ → List ℕ → ℕ → Type 0
Together a b sums r =
    (xs ys : List ℕ) → length xs ≡ boards_most → length ys ≡ boards_most → sums ≡ added xs ys → a ≡ picked_by xs → b ≡ picked_by ys → r ≡ picked_by sums
