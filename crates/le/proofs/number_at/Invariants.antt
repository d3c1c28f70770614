-- `le::number_at` meets its contract. The bytes are taken from the last down: the invariant is that v is the number in the bytes
-- from i on, and so fits them. Assumes nothing.
use mathlib.Core.Path.{◌≡◌}
use Prim.Native.Nat.{◌+◌, ◌-◌, ◌^◌, ◌<◌}
use Rattle.le.specs.Le.{le_at}
use Rattle.le.proofs.number_at.Given as goal

abbrev pub invariant-loop-i : goal.invariant-loop-i
invariant-loop-i l = (l.v ≡ le_at l.s (l.at + l.i) (l.w - l.i)) × (l.v < 256 ^ (l.w - l.i))
