-- The lines of an accepted rule or report, as bytes. Assumes nothing: these are definitions.
use Rattle.std.specs.Prelude.{List, [], ◌∷◌, ◌++◌, ℕ, suc, eqb}
use Rattle.lists.specs.Tests.{pick}
use Rattle.lines.specs.Lines.{decimal_of, field_of, feed}
use Rattle.spelling.specs.Typed.{board_text}

-- a number of things: "1 node", "7 nodes"
unfoldable pub counted_text : ℕ → List ℕ → List ℕ
counted_text n noun = decimal_of n ++ (32 ∷ (noun ++ pick (eqb n 1) [] (115 ∷ [])))

-- how many there are of two things, behind a word: "rule of 7 nodes, 3 propositions"
abbrev pub sizes_text : List ℕ → ℕ → List ℕ → ℕ → List ℕ → List ℕ
sizes_text word m first n second = word ++ (counted_text m first ++ ((44 ∷ 32 ∷ []) ++ counted_text n second))

-- "rule of 7 nodes, 3 propositions, 3 boards: 47 bytes"
abbrev pub rule_line : ℕ → ℕ → ℕ → ℕ → List ℕ
rule_line nodes propositions boards length =
    sizes_text (114 ∷ 117 ∷ 108 ∷ 101 ∷ 32 ∷ 111 ∷ 102 ∷ 32 ∷ []) nodes (110 ∷ 111 ∷ 100 ∷ 101 ∷ []) propositions (112 ∷ 114 ∷ 111 ∷ 112 ∷ 111 ∷ 115 ∷ 105 ∷ 116 ∷ 105 ∷ 111 ∷ 110 ∷ [])
    ++ ((44 ∷ 32 ∷ []) ++ (counted_text boards (98 ∷ 111 ∷ 97 ∷ 114 ∷ 100 ∷ []) ++ ((58 ∷ 32 ∷ []) ++ (counted_text length (98 ∷ 121 ∷ 116 ∷ 101 ∷ []) ++ feed))))

-- "report of 14 runs, 2 rules, 1 night"
abbrev pub report_line : ℕ → ℕ → ℕ → List ℕ
report_line runs rules nights =
    sizes_text (114 ∷ 101 ∷ 112 ∷ 111 ∷ 114 ∷ 116 ∷ 32 ∷ 111 ∷ 102 ∷ 32 ∷ []) runs (114 ∷ 117 ∷ 110 ∷ []) rules (114 ∷ 117 ∷ 108 ∷ 101 ∷ []) ++ ((44 ∷ 32 ∷ []) ++ (counted_text nights (110 ∷ 105 ∷ 103 ∷ 104 ∷ 116 ∷ []) ++ feed))

-- "board 1: p0,p2"
abbrev pub board_line : ℕ → ℕ → List ℕ
board_line i mask = (98 ∷ 111 ∷ 97 ∷ 114 ∷ 100 ∷ []) ++ (field_of i ++ ((58 ∷ 32 ∷ []) ++ (board_text mask ++ feed)))

-- a line for each board, the first of which has the number i
abbrev pub board_lines : ℕ → List ℕ → List ℕ
board_lines i [] = []
board_lines i (mask ∷ masks) = board_line i mask ++ board_lines (suc i) masks

-- room for a board's line: the word, a number, a colon and a space, the text and a line feed
abbrev pub board_line_most : ℕ
board_line_most = 285
