-- What is written and what is still to be written is the unfolded formula; with each turn more is written. Assumes nothing.
use mathlib.Core.Path.{◌≡◌}
use Prim.Native.Nat.{◌-◌}
use lib.ListN.{length}
use Rattle.unfolding.proofs.Goings.{Going}
use Rattle.unfolding.proofs.unfold_outlined.Given as goal

abbrev pub invariant-loop-k : goal.invariant-loop-k
invariant-loop-k l = Going l.s l.initial.out l.out l.notes l.r l.w l.k × (length l.out ≡ length l.initial.out) × (length l.notes ≡ l.n)

abbrev pub decreases-loop-k : goal.decreases-loop-k
decreases-loop-k l = l.n - l.w
