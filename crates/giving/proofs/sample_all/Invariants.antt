-- The boards from i on, sampled from here on, come to what all come to from the entry, and the watch goes on. Assumes nothing.
use mathlib.Core.Path.{◌≡◌}
use Prim.Native.Nat.{◌-◌}
use lib.ListN.{length}
use Rattle.course.specs.Given.{sampled_from}
use Rattle.giving.specs.Give.{GoingOn}
use Rattle.giving.proofs.sample_all.Given as goal

abbrev pub invariant-loop-i : goal.invariant-loop-i
invariant-loop-i l = GoingOn l.state l.c × (sampled_from (l.c.boards - l.i) l.event l.i l.state ≡ sampled_from l.c.boards l.event 0 l.initial.state) × (length l.state ≡ length l.initial.state)
