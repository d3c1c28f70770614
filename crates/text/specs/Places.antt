-- Where a text is refused, by byte and line. Assumes nothing: these are definitions.
use Rattle.std.specs.Prelude.{List, [], ◌∷◌, ◌++◌, ℕ, suc, ◌+◌, ◌≤◌, ◌<◌, length, take, eqb}
use Rattle.lists.specs.Tests.{pick}
use Rattle.ltl.specs.Formula.{Formula}
use Rattle.text.specs.Grammar.{Text}

-- some text begins with the bytes p
pub record Viable (p : List ℕ) : Type 0 where
  pub rest : List ℕ
  pub formula : Formula
  pub text : Text (p ++ rest) formula

-- the bytes t are no text, and k is the place: with the bytes before it some text begins, and with the byte there as well none does, or it
-- is the end
pub record RefusedAt (t : List ℕ) (k : ℕ) : Type 0 where
  pub none : (f : Formula) → Text t f → ⊥
  pub within : k ≤ length t
  pub before : Viable (take k t)
  pub there : k < length t → Viable (take (suc k) t) → ⊥

-- how many line feeds there are
unfoldable pub feed_of : ℕ → ℕ
feed_of b = pick (eqb b 10) 1 0

abbrev pub feeds : List ℕ → ℕ
feeds [] = 0
feeds (c ∷ t) = feed_of c + feeds t

-- the line of a place, from 1: a line feed belongs to the line that it ends
abbrev pub line_at : List ℕ → ℕ → ℕ
line_at t k = 1 + feeds (take k t)
