-- The two lines that show a place of a text. Assumes nothing: these are definitions.
use Rattle.std.specs.Prelude.{◌≡◌, List, [], ◌∷◌, ◌++◌, map, ℕ, ◌-◌, min, length, take, drop}
use Rattle.pointing.specs.Columns.{shown_byte, under_byte}
use Rattle.pointing.specs.Window.{ShownBefore, ShownBehind}

-- the bytes from one place up to another
abbrev pub between : ℕ → ℕ → List ℕ → List ℕ
between from to text = take (to - from) (drop from text)

-- a part of the text as it is shown, and below it the mark `^` under a place of it
abbrev pub point_text : List ℕ → ℕ → ℕ → ℕ → List ℕ
point_text text from at to = map shown_byte (between from to text) ++ ((10 ∷ []) ++ (map under_byte (between from at text) ++ (94 ∷ 10 ∷ [])))

-- the two lines for a place of the text, or for its end where it has no such byte
pub record Points (text : List ℕ) (place : ℕ) (lines : List ℕ) : Type 0 where
  pub at : ℕ
  pub from : ℕ
  pub to : ℕ
  pub at-is : at ≡ min place (length text)
  pub before : ShownBefore text at from
  pub behind : ShownBehind text at to
  pub line : lines ≡ point_text text from at to
