-- Closing a tick: the answer, and the second buffer. Assumes nothing: these are definitions.
use Rattle.answers.specs.declared.Refusal.{Refusal}
use Rattle.std.specs.Prelude.{◌≡◌, false, ℕ, ◌+◌, ◌^◌, List, [], ◌∷◌, length, ltb, Result, ⊤}
use Rattle.answers.specs.Said.{Said, accepted, check, in_order, said_outcome}
use Rattle.state.specs.declared.Counts.{Counts}
use Rattle.state.specs.Form.{form_in, state_length}
use Rattle.state.specs.Fields.{ticks_in}
use Rattle.state.specs.Calls.{finished_in, done_in, close_says, close_leaves}
use Rattle.state.specs.Opened.{Opened}
use Rattle.storing.specs.Stores.{ZeroFrom}
use Rattle.advancing.specs.Advance.{Lent}

-- whether a tick can be closed: it is done, and the ticks can be counted on
unfoldable pub over_says : List ℕ → Said
over_says s = in_order (check 14 (done_in s) ∷ check 15 (ltb (ticks_in s + 1) (2 ^ 32)) ∷ []) (accepted [])

-- the promise: the answer, and the second buffer with the next state, as it was where the call is refused
pub record Closes (s second second' : List ℕ) (answer : Result ⊤ Refusal) : Type 0 where
  pub says : said_outcome answer ≡ close_says s (length second)
  pub leaves : second' ≡ close_leaves s second

-- what a close asks that has its room lent: a watch that goes on, the second buffer's length, and that it is zero from a place on
pub record CloseLentAsk (s : List ℕ) (c : Counts) (second : List ℕ) (used : ℕ) (masks owner u tags : List ℕ) : Type 0 where
  pub opened : Opened s c
  pub going : finished_in s ≡ false
  pub long : length second ≡ state_length (form_in s)
  pub lent : Lent s masks owner u tags
  pub clean : ZeroFrom used second
