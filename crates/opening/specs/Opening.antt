-- How a call on a state begins. Assumes nothing: these are definitions.
use Rattle.std.specs.Prelude.{◌≡◌, true, false, List, ℕ}
use Rattle.state.specs.Clauses.{state_ok}
use Rattle.state.specs.Opened.{Opened}
use Rattle.state.specs.Calls.{finished_in}
use Rattle.opening.specs.declared.Opening.{Opening}
use Rattle.opening.specs.declared.Opening.TheVariants.{Broken, Finished, Going}

-- the promise: no state, a watch that is finished, or one that goes on
abbrev pub Opens : List ℕ → Opening → Type 0
Opens s Broken = state_ok s ≡ false
Opens s (Finished c) = Opened s c × (finished_in s ≡ true)
Opens s (Going c) = Opened s c × (finished_in s ≡ false)
