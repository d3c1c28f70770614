-- Asking how a watch stands: the answer. Assumes nothing: these are definitions.
use Rattle.answers.specs.declared.Refusal.{Refusal}
use Rattle.telling.specs.declared.Standing.{Standing}
use Rattle.std.specs.Prelude.{◌≡◌, ℕ, List, [], ◌∷◌, Result, Ok, Err}
use Rattle.answers.specs.Said.{Said, accepted, refused, number_of, verdict_number}
use Rattle.state.specs.Calls.{ask_says}

-- the enum's cases by number and values
abbrev pub said_ask : Result Standing Refusal → Said
said_ask (Err why) = refused (number_of why)
said_ask (Ok t) = accepted (verdict_number t.verdict ∷ t.ticks ∷ t.slots ∷ t.nodes ∷ [])

-- the promise: the answer; nothing is lent to write into
pub record Asks (s : List ℕ) (answer : Result Standing Refusal) : Type 0 where
  pub says : said_ask answer ≡ ask_says s
