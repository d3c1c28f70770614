-- At each turn the pass from here sees as the whole does. Assumes nothing.
use mathlib.Core.Path.{◌≡◌}
use lib.ListN.{drop}
use Rattle.resolving.specs.Settles.{event_alone}
use Rattle.seeing.specs.Seeing.{sight_over}
use Rattle.seeing.proofs.sight_over.Given as goal

abbrev pub invariant-loop-b : goal.invariant-loop-b
invariant-loop-b l = sight_over l.s l.p (event_alone l.event) ≡ sight_over l.s (drop l.b-index l.p) l.seen
