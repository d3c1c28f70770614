-- What the numbers left in the set have yet to raise stays the same: the lowest one is raised and cleared, and the set is then a smaller
-- number. Assumes nothing.
use mathlib.Core.Path.{◌≡◌}
use Prim.Native.Nat.{ℕ}
use lib.ListN.{length}
use Rattle.chaining.proofs.Raising.{raised_by}
use Rattle.chaining.proofs.raise.Given as goal

abbrev pub invariant-loop-left : goal.invariant-loop-left
invariant-loop-left l = (length l.chain ≡ length l.initial.chain) × ((m : ℕ) → raised_by l.left l.c l.chain m ≡ raised_by l.set l.c l.initial.chain m)

abbrev pub decreases-loop-left : goal.decreases-loop-left
decreases-loop-left l = l.left
