-- How the list of a mask's propositions is put, one after the other. That this comes to the list is proved; nobody has to believe it.
-- Assumes nothing: these are definitions.
use Rattle.std.specs.Prelude.{List, [], ◌∷◌, ℕ, eqb}
use Rattle.lists.specs.Tests.{pick, bit}
use Rattle.spelling.specs.Typed.{name_of}

-- room for the longest text: a comma, the letter and two digits for each proposition
abbrev pub board_room : ℕ
board_room = 256

-- what a proposition adds to a list that began at a place and has come to another: nothing where the mask does not have it
unfoldable pub next_text : ℕ → ℕ → ℕ → ℕ → List ℕ
next_text mask start at i = pick (bit mask i) (pick (eqb at start) (name_of i) (44 ∷ name_of i)) []
