-- The rule file: a header of 16 bytes of counts and offsets, a mask of 64 bits for each board, the formula.
-- Assumes nothing: these are definitions.
use Rattle.std.specs.Prelude.{ℕ, ◌+◌, ◌*◌, Bool, List, [], ◌∷◌, ◌++◌, length, drop}
use Rattle.lists.specs.Tests.{both, in_range}
use Rattle.lists.specs.Listed.{listed}
use Rattle.limits.specs.Limits.{boards_most, propositions_most, rule_nodes_most}
use Rattle.le.specs.Le.{le, le_at}

-- ---- limits and sizes
abbrev pub version : ℕ
version = 1

-- the header's length, where the masks begin
abbrev pub masks_at : ℕ
masks_at = 16

-- where the formula begins, after b masks
abbrev pub file_formula_at : ℕ → ℕ
file_formula_at b = masks_at + 8 * b

-- the length of the file of b boards and n nodes
abbrev pub total_of : ℕ → ℕ → ℕ
total_of b n = file_formula_at b + n

-- the longest file, and the buffer that one is written into
abbrev pub file_most : ℕ
file_most = total_of boards_most rule_nodes_most

-- the counts b of boards, p of propositions and n of nodes are in range
unfoldable pub counts_ok : ℕ → ℕ → ℕ → Bool
counts_ok b p n = both (in_range boards_most b) (both (in_range propositions_most p) (in_range rule_nodes_most n))

-- ---- the file of a rule
abbrev pub file_header : ℕ → ℕ → ℕ → List ℕ
file_header b p n =
    le 2 version ++ (le 2 b ++ (le 2 p ++ (le 2 n ++ (le 2 masks_at ++ (le 2 (file_formula_at b) ++ le 4 (total_of b n))))))

unfoldable pub mask_bytes : List ℕ → List ℕ
mask_bytes [] = []
mask_bytes (m ∷ ms) = le 8 m ++ mask_bytes ms

-- the masks, the number of propositions, the formula
unfoldable pub file_of : List ℕ → ℕ → List ℕ → List ℕ
file_of masks p formula = file_header (length masks) p (length formula) ++ (mask_bytes masks ++ formula)

-- ---- a file's fields
abbrev pub version_in_file : List ℕ → ℕ
version_in_file file = le_at file 0 2

abbrev pub boards_in_file : List ℕ → ℕ
boards_in_file file = le_at file 2 2

abbrev pub propositions_in_file : List ℕ → ℕ
propositions_in_file file = le_at file 4 2

abbrev pub nodes_in_file : List ℕ → ℕ
nodes_in_file file = le_at file 6 2

abbrev pub masks_offset_in_file : List ℕ → ℕ
masks_offset_in_file file = le_at file 8 2

abbrev pub formula_offset_in_file : List ℕ → ℕ
formula_offset_in_file file = le_at file 10 2

abbrev pub total_in_file : List ℕ → ℕ
total_in_file file = le_at file 12 4

abbrev pub mask_in_file : List ℕ → ℕ → ℕ
mask_in_file file i = le_at file (masks_at + 8 * i) 8

abbrev pub masks_in_file : List ℕ → List ℕ
masks_in_file file = listed (mask_in_file file) (boards_in_file file)

abbrev pub formula_in_file : List ℕ → List ℕ
formula_in_file file = drop (file_formula_at (boards_in_file file)) file
