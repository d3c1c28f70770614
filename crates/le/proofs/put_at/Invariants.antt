-- `le::put_at` meets its contract. The invariant: were the bytes of x put at the place that k has come to, with k fewer of them,
-- the list would be the one that is promised. Assumes nothing.
use mathlib.Core.Path.{◌≡◌}
use Prim.Native.Nat.{◌+◌, ◌-◌}
use Rattle.le.proofs.Laws.{spliced}
use Rattle.le.proofs.put_at.Given as goal

abbrev pub invariant-loop-k : goal.invariant-loop-k
invariant-loop-k l = spliced l.s (l.at + l.k) (l.w - l.k) l.x (l.at + l.w) ≡ spliced l.initial.s l.at l.w l.v (l.at + l.w)
