-- A board's sample: the answer, and the lent state. Assumes nothing: these are definitions.
use Rattle.answers.specs.declared.Refusal.{Refusal}
use Rattle.std.specs.Prelude.{◌≡◌, ℕ, List, Result, ⊤}
use Rattle.answers.specs.Said.{said_outcome}
use Rattle.state.specs.Calls.{sample_says, sample_leaves}

-- the promise: the answer, and the state with the board's sample and mark, as it was where the call is refused
pub record Samples (s : List ℕ) (board bits : ℕ) (s' : List ℕ) (answer : Result ⊤ Refusal) : Type 0 where
  pub says : said_outcome answer ≡ sample_says s board bits
  pub leaves : s' ≡ sample_leaves s board bits
