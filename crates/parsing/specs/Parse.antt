-- Reading a rule as people type it: the answer and the lent buffer, over the grammar alone. Assumes nothing: these are definitions.
use Rattle.std.specs.Prelude.{◌≡◌, List, [], ◌∷◌, ℕ, ◌<◌, ◌≤◌, length, Result, Ok, Err}
use Rattle.lists.specs.Runs.{padded}
use Rattle.limits.specs.Limits.{rule_nodes_most}
use Rattle.answers.specs.Said.{Said, accepted, refused, refused_with, number_of}
use Rattle.answers.specs.declared.Refusal.TheVariants as refusal
use Rattle.ltl.specs.Formula.{Formula, size, encode}
use Rattle.text.specs.Grammar.{Text}
use Rattle.text.specs.Places.{RefusedAt, line_at}
use Rattle.parsing.specs.declared.ParseError.{ParseError}
use Rattle.parsing.specs.declared.ParseError.TheVariants.{Refused, NoText}

-- what is answered of the text t where d is lent for a formula of so many nodes at most, and what d holds afterwards, in the order of the
-- checks: 1 by the buffer's length; 16 where t is no text, with the line and the byte of the place; 3 where its formula has more nodes; else
-- the number of nodes, and the formula's bytes with zeros behind them
pub data ParseSays (most : ℕ) (t d : List ℕ) : Said → List ℕ → Type 0 where
  length-refused : (length d ≡ most → ⊥) → ParseSays most t d (refused 1) d
  text-refused : {k : ℕ} → length d ≡ most → RefusedAt t k → ParseSays most t d (refused_with 16 (line_at t k ∷ k ∷ [])) d
  range-refused : {f : Formula} → length d ≡ most → Text t f → most < size f → ParseSays most t d (refused 3) d
  parsed : {f : Formula} → length d ≡ most → Text t f → size f ≤ most → ParseSays most t d (accepted (size f ∷ [])) (padded most (encode f))

-- the enum's cases by number and values
abbrev pub said_parse : Result ℕ ParseError → Said
said_parse (Err (Refused why)) = refused (number_of why)
said_parse (Err (NoText c)) = refused_with (number_of refusal.Text) (c.line ∷ c.byte ∷ [])
said_parse (Ok n) = accepted (n ∷ [])

-- the promise: a rule's limit
abbrev pub Parses : List ℕ → List ℕ → List ℕ → Result ℕ ParseError → Type 0
Parses text formula formula' answer = ParseSays rule_nodes_most text formula (said_parse answer) formula'
