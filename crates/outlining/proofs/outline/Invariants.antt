-- Up to the place that the loop has come to the notes are an outline; each turn goes over a byte or over a part that stays whole.
-- Assumes nothing.
use mathlib.Core.Path.{◌≡◌}
use Prim.Native.Nat.{◌-◌, ◌≤◌}
use lib.ListN.{length}
use Rattle.outlining.specs.Outlined.{Outlined}
use Rattle.outlining.proofs.outline.Given as goal

abbrev pub invariant-loop-i : goal.invariant-loop-i
invariant-loop-i l = (length l.notes ≡ length l.initial.notes) × (l.i ≤ length l.s) × Outlined l.s l.notes l.i

abbrev pub decreases-loop-i : goal.decreases-loop-i
decreases-loop-i l = length l.s - l.i
