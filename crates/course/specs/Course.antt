-- What a run of events comes to, tick by tick, up to their end, a verdict, or a tick that is refused. Assumes nothing: these are
-- definitions.
use Rattle.std.specs.Prelude.{List, [], ◌∷◌, ℕ, suc, eqb}
use Rattle.lists.specs.Tests.{pick}
use Rattle.state.specs.Calls.{finished_in}
use Rattle.course.specs.Ticked.{tick_says, closed_to}

-- how many events were closed; the number of the refusal at which the run stopped, 0 where there was none; and the last closed state,
-- where none was closed the one given
pub record Course : Type 0 where
  pub closed : ℕ
  pub refusal : ℕ
  pub leaves : List ℕ

-- no event is closed any more
abbrev pub stopped : ℕ → List ℕ → Course
stopped n s = record { closed = 0; refusal = n; leaves = s }

-- one was, before the others
abbrev pub one_more : Course → Course
one_more r = record { closed = suc r.closed; refusal = r.refusal; leaves = r.leaves }

-- event by event
unfoldable pub coursed : List ℕ → List ℕ → Course
coursed s [] = stopped 0 s
coursed s (event ∷ events) =
    pick (finished_in s) (stopped 0 s)
    (pick (eqb (tick_says s event).number 0) (one_more (coursed (closed_to s event) events)) (stopped (tick_says s event).number s))
