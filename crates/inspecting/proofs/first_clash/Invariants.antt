-- The records so far have no clash (`ClearTo`), four more a turn; the records left fall. The rest, and four of which one clashes, are looked at one
-- by one. Assumes nothing.
use Prim.Native.Nat.{◌+◌, ◌-◌, ◌≤◌}
use Rattle.inspecting.specs.Looked.{ClearTo}
use Rattle.inspecting.proofs.first_clash.Given as goal

abbrev pub invariant-loop-i : goal.invariant-loop-i
invariant-loop-i l = ClearTo l.recording l.i × (l.i ≤ l.n + 1)

abbrev pub decreases-loop-i : goal.decreases-loop-i
decreases-loop-i l = l.n - l.i
