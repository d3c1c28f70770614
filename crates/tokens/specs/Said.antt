-- What a token says, in bytes. Assumes nothing: these are definitions.
use Rattle.std.specs.Prelude.{ℕ, ◌-◌, ◌≤◌, List, [], ◌∷◌, get_or, take, drop, ltb}
use Rattle.lists.specs.Tests.{pick}
use Rattle.kinds.specs.Kinds.{unary_code}
use Rattle.kinds.specs.declared.Unary.TheVariants.{Next}
use Rattle.ltl.specs.Formula.{Formula, Coded}
use Rattle.choices.specs.Marks.{length_in}
use Rattle.tokens.specs.Tokens.{text_code, TextAt, Spelt}

-- the bytes that a token stands for: a node's code, or next and the text under it
unfoldable pub said : List ℕ → List ℕ → ℕ → List ℕ
said bytes marks t = pick (ltb t text_code) (t ∷ []) (unary_code Next ∷ take (length_in (get_or marks (t - text_code) 0)) (drop (t - text_code) bytes))

-- some formula stands at a place of the bytes, and its length is marked there
pub record TextHeld (bytes marks : List ℕ) (at : ℕ) : Type 0 where
  pub formula : Formula
  pub stands : TextAt bytes marks at formula

-- where a token is a text, that text can be read
abbrev pub Readable : List ℕ → List ℕ → ℕ → Type 0
Readable bytes marks t = text_code ≤ t → TextHeld bytes marks (t - text_code)

-- the tokens are those of some formula
pub record SpeltSome (bytes marks tokens : List ℕ) : Type 0 where
  pub formula : Formula
  pub coded : Coded formula
  pub spelt : Spelt bytes marks formula tokens
