-- At each turn the members of what stands at `at` are those that are left to be compared (`Chain`); the bytes left fall. Assumes nothing.
use mathlib.Core.Path.{◌≡◌}
use Prim.Native.Nat.{◌+◌, ◌-◌}
use lib.ListN.{length}
use Rattle.joining.proofs.Chains.{Chain}
use Rattle.joining.proofs.members.is_member.Given as goal

abbrev pub invariant-loop-at : goal.invariant-loop-at
invariant-loop-at l = Chain l.p l.initial.notes l.notes l.w l.l l.r l.op l.at × (l.end ≡ l.w + l.l + l.r) × (length l.notes ≡ length l.initial.notes)

abbrev pub decreases-loop-at : goal.decreases-loop-at
decreases-loop-at l = length l.p - l.at
