-- The part of a line around a place that is shown. A line feed is 10. Assumes nothing: these are definitions.
use Rattle.std.specs.Prelude.{◌≡◌, List, ℕ, ◌+◌, ◌-◌, ◌<◌, ◌≤◌, length, get_or}

-- the most bytes that are shown before a place, and from it on
abbrev pub before_most : ℕ
before_most = 59

abbrev pub behind_most : ℕ
behind_most = 20

-- what is shown before a place begins at `from`: there the line begins, unless that is farther away
pub record ShownBefore (text : List ℕ) (at from : ℕ) : Type 0 where
  pub within : from ≤ at
  pub near : at ≤ from + before_most
  pub one_line : (k : ℕ) → from ≤ k → k < at → get_or text k 0 ≡ 10 → ⊥
  pub begins : 0 < from → (at ≡ from + before_most → ⊥) → get_or text (from - 1) 0 ≡ 10

-- what is shown from a place on ends at `to`: there the line ends, unless that is farther away
pub record ShownBehind (text : List ℕ) (at to : ℕ) : Type 0 where
  pub within : at ≤ to
  pub short : to ≤ length text
  pub near : to ≤ at + behind_most
  pub one_line : (k : ℕ) → at ≤ k → k < to → get_or text k 0 ≡ 10 → ⊥
  pub ends : to < length text → (to ≡ at + behind_most → ⊥) → get_or text to 0 ≡ 10
