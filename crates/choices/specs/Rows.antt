-- Rows of counts, one behind the other: a count for each board that there may be. Assumes nothing: these are definitions.
use Rattle.std.specs.Prelude.{◌≡◌, ℕ, ◌+◌, List, take, drop}
use Rattle.limits.specs.Limits.{boards_most}

-- the counts of a part as it stands are below this, and those of one unfolded
abbrev pub raw_below : ℕ
raw_below = 65536

abbrev pub opened_below : ℕ
opened_below = 33554432

-- the row that begins at a place
unfoldable pub row_at : ℕ → List ℕ → List ℕ
row_at at rows = take boards_most (drop at rows)

-- the counts were put there, and the rows behind stay
pub record PutsRow (at : ℕ) (counts rows rows' : List ℕ) : Type 0 where
  pub row : row_at at rows' ≡ counts
  pub others : drop (at + boards_most) rows' ≡ drop (at + boards_most) rows
