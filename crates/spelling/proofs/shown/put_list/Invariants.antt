-- The invariant: the propositions below i are put. Assumes nothing.
use mathlib.Core.Path.{◌≡◌}
use mathlib.Core.List.{◌++◌}
use Prim.Native.Nat.{◌+◌, ◌*◌, ◌≤◌}
use lib.ListN.{length}
use Rattle.spelling.specs.Typed.{list_text, seen_below}
use Rattle.spelling.proofs.shown.put_list.Given as goal

abbrev pub invariant-loop-i : goal.invariant-loop-i
invariant-loop-i g l = (l.out ≡ l.initial.out ++ list_text (seen_below l.mask l.i)) × (length l.out ≤ length l.initial.out + 4 * l.i)
