-- What comparing tokens answers: `SaysSame` is the promise for two tokens, `RunsTold` that for two runs of them. Assumes nothing: these
-- are definitions.
use Rattle.std.specs.Prelude.{◌≡◌, Bool, true, false, List, ℕ, ◌+◌, ◌≤◌, length, take, drop}
use Rattle.ltl.specs.Formula.{Formula, Coded, same}
use Rattle.tokens.specs.Tokens.{Spelt}
use Rattle.tokens.specs.Said.{said, SpeltSome}

-- r says whether two tokens stand for the same bytes
pub record SaysSame (bytes marks : List ℕ) (t u : ℕ) (r : Bool) : Type 0 where
  pub alike : r ≡ true → said bytes marks t ≡ said bytes marks u
  pub differ : r ≡ false → said bytes marks t ≡ said bytes marks u → ⊥

-- n tokens from a place of the bodies on
abbrev pub run_of : List ℕ → ℕ → ℕ → List ℕ
run_of bodies from n = take n (drop from bodies)

-- the tokens, and as many from a place of the bodies on, are those of formulas
pub record RunsAsk (bytes marks bodies : List ℕ) (from : ℕ) (tokens : List ℕ) : Type 0 where
  pub marked : length bytes ≤ length marks
  pub room : from + length tokens ≤ length bodies
  pub left : SpeltSome bytes marks tokens
  pub right : SpeltSome bytes marks (run_of bodies from (length tokens))

-- r says whether these formulas are equal
abbrev pub RunsTold : List ℕ → List ℕ → List ℕ → ℕ → List ℕ → Bool → Type 0
RunsTold bytes marks bodies from tokens r =
    (f g : Formula) → Coded f → Coded g → Spelt bytes marks f tokens → Spelt bytes marks g (run_of bodies from (length tokens)) → r ≡ same f g
