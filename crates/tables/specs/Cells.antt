-- The cells of a line. Assumes nothing: these are definitions.
use Rattle.std.specs.Prelude.{List, [], ◌∷◌, ◌++◌, ℕ, ◌-◌, length, replicate}
use Rattle.tables.specs.declared.Sheet.{Sheet}
use Rattle.tables.specs.declared.Sheet.TheVariants.{Table, Values}

-- a text at the right of a column: behind as many blanks as it is short of the width
abbrev pub right_of : ℕ → List ℕ → List ℕ
right_of width text = replicate (width - length text) 32 ++ text

-- a cell: in a table a text at the right of its column, among values the text
abbrev pub cell_of : Sheet → ℕ → List ℕ → List ℕ
cell_of Table width text = right_of width text
cell_of Values width text = text

-- what parts two cells: two blanks, or a comma
abbrev pub gap_of : Sheet → List ℕ
gap_of Table = 32 ∷ 32 ∷ []
gap_of Values = 44 ∷ []

-- a cell behind another one
abbrev pub further_of : Sheet → ℕ → List ℕ → List ℕ
further_of sheet width text = gap_of sheet ++ cell_of sheet width text

-- ---- the most bytes
-- of a gap
abbrev pub gap_most : ℕ
gap_most = 2

-- of the widest column
abbrev pub width_most : ℕ
width_most = 12

-- of a number of 64 bits
abbrev pub number_most : ℕ
number_most = 20
