-- The slots below k, stepped from here on, come to what all come to from the entry, and the watch goes on. A slot that strays ends them:
-- the next call would refuse the state. Assumes nothing.
use mathlib.Core.Path.{◌≡◌}
use lib.ListN.{length}
use Rattle.course.specs.Given.{follow, stepped_below}
use Rattle.giving.specs.Give.{passing, GoingOn}
use Rattle.giving.proofs.step_all.Given as goal

abbrev pub invariant-loop-k : goal.invariant-loop-k
invariant-loop-k l = GoingOn l.state l.c × (follow (stepped_below l.k l.state) passing ≡ follow (stepped_below l.c.slots l.initial.state) passing) × (length l.state ≡ length l.initial.state)
