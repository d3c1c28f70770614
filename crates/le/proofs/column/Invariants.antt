-- `out` has the first i numbers in front, then what it had before. Assumes nothing.
use mathlib.Core.Path.{◌≡◌}
use mathlib.Core.List.{List}
use Prim.Native.Nat.{ℕ, ◌+◌, ◌*◌}
use Rattle.lists.specs.Listed.{listed}
use Rattle.lists.proofs.Overlay.{overlaid}
use Rattle.le.specs.Le.{le_at}
use Rattle.le.proofs.column.Given as goal

-- the number of row i
abbrev pub row : List ℕ → ℕ → ℕ → ℕ → ℕ
row s at step i = le_at s (at + step * i) 8

abbrev pub invariant-loop-i : goal.invariant-loop-i
invariant-loop-i l = l.out ≡ overlaid l.i (listed (row l.s l.at l.step) l.n) l.initial.out
