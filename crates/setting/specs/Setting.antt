-- What is written for tokens: a node's code, a place holder by its new number, or next and a copy of the text under it. `SetAsk` is what
-- writing a formula's nodes asks, `Sets` what it promises. Assumes nothing: these are definitions.
use Rattle.std.specs.Prelude.{◌≡◌, true, List, [], ◌∷◌, ◌++◌, ℕ, ◌+◌, ◌-◌, ◌<◌, ◌≤◌, length, get_or, take, drop, ltb}
use Rattle.lists.specs.Tests.{pick}
use Rattle.limits.specs.Limits.{holder_codes}
use Rattle.kinds.specs.Kinds.{unary_code, hold_code}
use Rattle.kinds.specs.declared.Unary.TheVariants.{Next}
use Rattle.ltl.specs.Formula.{Formula, size, encode, Coded}
use Rattle.registers.specs.Relaying.{holds_of, is_among}
use Rattle.registers.specs.Numbers.{renumbered}
use Rattle.choices.specs.Marks.{length_in}
use Rattle.tokens.specs.Tokens.{text_code, Spelt}

-- ---- one token
-- the text at a place, by the length in its mark
abbrev pub text_at : List ℕ → List ℕ → ℕ → List ℕ
text_at bytes marks at = take (length_in (get_or marks at 0)) (drop at bytes)

-- the text at a place lies inside the bytes, and there is a mark
pub record TextInside (bytes marks : List ℕ) (at : ℕ) : Type 0 where
  pub marked : at < length marks
  pub inside : at + length_in (get_or marks at 0) ≤ length bytes

-- the nodes that a token stands for
unfoldable pub put_of : List ℕ → List ℕ → List ℕ → ℕ → List ℕ
put_of bytes marks numbers t =
    pick (ltb t hold_code) (t ∷ [])
    (pick (ltb t text_code) ((hold_code + get_or numbers (t - hold_code) 0) ∷ []) (unary_code Next ∷ text_at bytes marks (t - text_code)))

-- a place holder has a new number, and a text lies inside the bytes
pub record TokenAsk (bytes marks numbers : List ℕ) (t : ℕ) : Type 0 where
  pub numbered : hold_code ≤ t → t < text_code → t - hold_code < length numbers
  pub few : hold_code ≤ t → t < text_code → get_or numbers (t - hold_code) 0 < holder_codes
  pub text : text_code ≤ t → TextInside bytes marks (t - text_code)

-- ---- all of a formula's
-- the tokens are those of a formula; each place holder in it has a new number, and there is room for its nodes
pub record SetAsk (bytes marks numbers tokens : List ℕ) (room : ℕ) : Type 0 where
  pub formula : Formula
  pub spelt : Spelt bytes marks formula tokens
  pub coded : Coded formula
  pub marked : length bytes ≤ length marks
  pub numbered : (k : ℕ) → is_among k (holds_of formula) ≡ true → k < length numbers
  pub few : (k : ℕ) → is_among k (holds_of formula) ≡ true → get_or numbers k 0 < holder_codes
  pub fits : size formula ≤ room

-- the nodes of the formula with its new numbers stand in front, and nothing behind them has changed
pub record SetAs (f : Formula) (number : ℕ → ℕ) (before after : List ℕ) (n : ℕ) : Type 0 where
  pub read : n ≡ size f
  pub stands : after ≡ encode (renumbered number f) ++ drop (size f) before

-- so for whatever formula the tokens spell, and whatever numbering the table has
abbrev pub Sets : List ℕ → List ℕ → List ℕ → List ℕ → List ℕ → List ℕ → ℕ → Type 0
Sets bytes marks numbers tokens before after n =
    (f : Formula) (number : ℕ → ℕ) → Spelt bytes marks f tokens → Coded f → ((k : ℕ) → is_among k (holds_of f) ≡ true → get_or numbers k 0 ≡ number k)
    → SetAs f number before after n
