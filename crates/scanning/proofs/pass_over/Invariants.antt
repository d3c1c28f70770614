-- At each turn the pass from here answers as the whole does; the operands owed are at most one more than the bytes read. Assumes nothing.
use mathlib.Core.Path.{◌≡◌}
use Prim.Native.Nat.{◌+◌, ◌≤◌}
use lib.ListN.{drop}
use Rattle.scanning.specs.OnePass.{pass}
use Rattle.scanning.proofs.pass_over.Given as goal

abbrev pub invariant-loop-b : goal.invariant-loop-b
invariant-loop-b l = (l.at.outer + l.at.inner ≤ l.b-index + 1) × (pass l.allowed l.s l.initial.at ≡ pass l.allowed (drop l.b-index l.s) l.at)
