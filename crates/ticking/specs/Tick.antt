-- One tick of a capture: what it asks, and what it answers and leaves. Assumes nothing: these are definitions.
use Rattle.answers.specs.declared.Refusal.{Refusal}
use Rattle.std.specs.Prelude.{◌≡◌, List, ℕ, ◌+◌, Result, ⊤}
use Rattle.answers.specs.Said.{said_outcome, left}
use Rattle.state.specs.declared.Counts.{Counts}
use Rattle.storing.specs.Stores.{ZeroFrom}
use Rattle.advancing.specs.Advance.{Lent}
use Rattle.course.specs.Ticked.{tick_says, closed_to}
use Rattle.giving.specs.Give.{GoingOn}

-- a watch that goes on, a copy of it, and what each tick is lent
pub record TickAsk (s : List ℕ) (c : Counts) (second masks owner u tags : List ℕ) : Type 0 where
  pub going : GoingOn s c
  pub copied : second ≡ s
  pub lent : Lent s masks owner u tags

-- the promise: the answer; the state as it is closed, as it was where the tick is refused; and zeros behind what stands in the copy
pub record TicksOnce (s : List ℕ) (c : Counts) (event : ℕ) (s' second' : List ℕ) (answer : Result ⊤ Refusal) : Type 0 where
  pub says : said_outcome answer ≡ tick_says s event
  pub leaves : s' ≡ left (tick_says s event) (closed_to s event) s
  pub zeros : ZeroFrom (c.stretches + c.nodes) second'
