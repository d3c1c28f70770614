-- A whole tick by the calls one at a time: an event given to the network and, where that is accepted, closed into a buffer of the state's
-- length. Assumes nothing: these are definitions.
use Rattle.std.specs.Prelude.{List, ℕ, length, eqb}
use Rattle.lists.specs.Tests.{pick}
use Rattle.answers.specs.Said.{Said}
use Rattle.state.specs.Calls.{close_says, close_leaves}
use Rattle.course.specs.Given.{given_under}

-- what the samples and steps have left when the close is called, or when one of them was refused
abbrev pub tick_leaves : List ℕ → ℕ → List ℕ
tick_leaves s event = (given_under s event).leaves

-- what the tick answers: a refusal on the way, else what close answers
unfoldable pub tick_says : List ℕ → ℕ → Said
tick_says s event = pick (eqb (given_under s event).says.number 0) (close_says (tick_leaves s event) (length s)) (given_under s event).says

-- the state that it closes to, put in the place of the one that was given
abbrev pub closed_to : List ℕ → ℕ → List ℕ
closed_to s event = close_leaves (tick_leaves s event) s
