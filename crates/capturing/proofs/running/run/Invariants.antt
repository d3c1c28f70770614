-- A turn copies the state, ticks, and looks at what was closed. Each way out is a law of proofs/Turns.antt. Assumes
-- nothing.
use mathlib.Core.Path.{◌≡◌}
use lib.ListN.{length}
use Rattle.capturing.proofs.Turns.{CameTo}
use Rattle.capturing.proofs.running.run.Given as goal

abbrev pub invariant-loop-closed : goal.invariant-loop-closed
invariant-loop-closed l = CameTo l.initial.state l.events l.state l.second l.counts l.used l.closed × (length l.u ≡ length l.initial.u) × (length l.tags ≡ length l.initial.tags) × (length l.second ≡ length l.initial.second)
