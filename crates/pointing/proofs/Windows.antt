-- The part of a line that is shown: no line feed in it. Assumes nothing.
use mathlib.Core.Path.{◌≡◌}
use mathlib.Core.List.{List}
use Prim.Native.Nat.{ℕ, ◌<◌, ◌≤◌}
use lib.ListN.{get_or}

-- no line feed from one place up to another
abbrev pub OneLine : List ℕ → ℕ → ℕ → Type 0
OneLine text from to = (k : ℕ) → from ≤ k → k < to → get_or text k 0 ≡ 10 → ⊥
