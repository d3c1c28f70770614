-- A slot's step: the answer, and the lent state. Assumes nothing: these are definitions.
use Rattle.answers.specs.declared.Refusal.{Refusal}
use Rattle.std.specs.Prelude.{◌≡◌, List, ℕ, Result, ⊤}
use Rattle.answers.specs.Said.{said_outcome}
use Rattle.state.specs.Calls.{step_says, step_leaves}

-- the promise: the answer, and the state with the slot stepped, as it was where the call is refused
pub record StepsSlot (s : List ℕ) (slot : ℕ) (s' : List ℕ) (answer : Result ⊤ Refusal) : Type 0 where
  pub says : said_outcome answer ≡ step_says s slot
  pub leaves : s' ≡ step_leaves s slot
