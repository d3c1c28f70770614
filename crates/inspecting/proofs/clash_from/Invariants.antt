-- The records so far have no clash (`ClearTo`). A clash ends the loop with its place. Assumes nothing.
use Rattle.inspecting.specs.Looked.{ClearTo}
use Rattle.inspecting.proofs.clash_from.Given as goal

abbrev pub invariant-loop-i : goal.invariant-loop-i
invariant-loop-i l = ClearTo l.recording l.i
