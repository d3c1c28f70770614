-- A run that goes on with further events. Assumes nothing: this is a definition.
use Rattle.std.specs.Prelude.{not, List, ℕ, ◌+◌, eqb}
use Rattle.lists.specs.Tests.{pick, both}
use Rattle.state.specs.Calls.{finished_in}
use Rattle.course.specs.Course.{Course, coursed}

-- a run that came to its end goes on with further events; one that stopped before stays as it is
unfoldable pub resumed : Course → List ℕ → Course
resumed r events =
    pick (both (eqb r.refusal 0) (not (finished_in r.leaves)))
    (record { closed = r.closed + (coursed r.leaves events).closed; refusal = (coursed r.leaves events).refusal; leaves = (coursed r.leaves events).leaves })
    r
