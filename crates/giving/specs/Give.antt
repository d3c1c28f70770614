-- What giving an event to a watch that goes on answers and leaves. Assumes nothing: these are definitions.
use Rattle.answers.specs.declared.Refusal.{Refusal}
use Rattle.std.specs.Prelude.{◌≡◌, true, false, List, [], ◌∷◌, ℕ, Result, Ok, Err, ⊤}
use Rattle.answers.specs.Said.{accepted, said_outcome, check, in_order}
use Rattle.state.specs.declared.Counts.{Counts}
use Rattle.state.specs.Clauses.{rest_ok, state_ok}
use Rattle.state.specs.Calls.{finished_in}
use Rattle.state.specs.Counted.{Header}
use Rattle.state.specs.Opened.{Opened}
use Rattle.course.specs.Given.{After, after, follow, given_under}

-- that the state passes which the last step has left: the next call would refuse it
abbrev pub passing : List ℕ → After
passing s = after (in_order (check 9 (state_ok s) ∷ []) (accepted [])) s

-- the calls of a tick up to its close, and that
unfoldable pub given_passing : List ℕ → ℕ → After
given_passing s event = follow (given_under s event) passing

-- the answer, and the state as the last call has left it
pub record Comes (a : After) (s' : List ℕ) (answer : Result ⊤ Refusal) : Type 0 where
  pub says : said_outcome answer ≡ a.says
  pub leaves : s' ≡ a.leaves

-- a state that was opened and goes on
pub record GoingOn (s : List ℕ) (c : Counts) : Type 0 where
  pub opened : Opened s c
  pub unfinished : finished_in s ≡ false

-- the promise: that; the counts stay, and the zeros behind the nodes; and where no call is refused the watch still goes on
pub record GivesEvent (a : After) (c : Counts) (s' : List ℕ) (answer : Result ⊤ Refusal) : Type 0 where
  pub comes : Comes a s' answer
  pub header : Header s' c
  pub rest : rest_ok s' ≡ true
  pub going : answer ≡ Ok tt → GoingOn s' c
