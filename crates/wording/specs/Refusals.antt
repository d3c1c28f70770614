-- The last line after a refusal, as bytes. Assumes nothing: these are definitions.
use Rattle.std.specs.Prelude.{List, [], ◌∷◌, ◌++◌, map, ℕ, take}
use Rattle.lines.specs.Lines.{field_of, feed}
use Rattle.answers.specs.declared.Refusal.{Refusal}
use Rattle.answers.specs.declared.Refusal.TheVariants as refusal
use Rattle.answers.specs.Said.{number_of}
use Rattle.pointing.specs.Columns.{shown_byte}

-- ---- refusals
-- "refused" and a number
abbrev pub refused_text : Refusal → List ℕ
refused_text why = (114 ∷ 101 ∷ 102 ∷ 117 ∷ 115 ∷ 101 ∷ 100 ∷ []) ++ field_of (number_of why)

-- "refused N: words"
abbrev pub refused_words : Refusal → List ℕ → List ℕ
refused_words why words = refused_text why ++ ((58 ∷ 32 ∷ []) ++ (words ++ feed))

-- "refused 16: line L, byte B: not a rule"
abbrev pub no_rule : ℕ → ℕ → List ℕ
no_rule line byte =
    refused_text refusal.Text
    ++ ((58 ∷ 32 ∷ 108 ∷ 105 ∷ 110 ∷ 101 ∷ []) ++ (field_of line ++ ((44 ∷ 32 ∷ 98 ∷ 121 ∷ 116 ∷ 101 ∷ []) ++ (field_of byte ++ (58 ∷ 32 ∷ 110 ∷ 111 ∷ 116 ∷ 32 ∷ 97 ∷ 32 ∷ 114 ∷ 117 ∷ 108 ∷ 101 ∷ 10 ∷ [])))))

-- the most bytes of an argument that are shown
abbrev pub shown_most : ℕ
shown_most = 200

-- an argument or a name, as much of it as is shown
abbrev pub shown_name : List ℕ → List ℕ
shown_name name = map shown_byte (take shown_most name)

-- "refused N: FILE"
abbrev pub about_file : Refusal → List ℕ → List ℕ
about_file why name = refused_text why ++ ((58 ∷ 32 ∷ []) ++ shown_name name)

-- the most bytes of that: the word and a number, a colon and a space, and the name
abbrev pub about_most : ℕ
about_most = 230

-- "refused N: FILE: words"
abbrev pub refused_file : Refusal → List ℕ → List ℕ → List ℕ
refused_file why name words = about_file why name ++ ((58 ∷ 32 ∷ []) ++ (words ++ feed))

-- "refused 19: FILE: run P"
abbrev pub about_run : List ℕ → ℕ → List ℕ
about_run name place = about_file refusal.Run name ++ ((58 ∷ 32 ∷ 114 ∷ 117 ∷ 110 ∷ []) ++ field_of place)

-- "refused 19: FILE: run P: rule R, verdict V"
abbrev pub no_run : List ℕ → ℕ → ℕ → ℕ → List ℕ
no_run name place rule verdict =
    about_run name place ++ ((58 ∷ 32 ∷ 114 ∷ 117 ∷ 108 ∷ 101 ∷ []) ++ (field_of rule ++ ((44 ∷ 32 ∷ 118 ∷ 101 ∷ 114 ∷ 100 ∷ 105 ∷ 99 ∷ 116 ∷ []) ++ (field_of verdict ++ feed))))

-- "refused 20: FILE: record P: the counter of the one before and another event"
abbrev pub clash_line : List ℕ → ℕ → List ℕ
clash_line name place =
    about_file refusal.Clash name
    ++ ((58 ∷ 32 ∷ 114 ∷ 101 ∷ 99 ∷ 111 ∷ 114 ∷ 100 ∷ [])
    ++ (field_of place
    ++ (58 ∷ 32 ∷ 116 ∷ 104 ∷ 101 ∷ 32 ∷ 99 ∷ 111 ∷ 117 ∷ 110 ∷ 116 ∷ 101 ∷ 114 ∷ 32 ∷ 111 ∷ 102 ∷ 32 ∷ 116 ∷ 104 ∷ 101 ∷ 32 ∷ 111 ∷ 110 ∷ 101 ∷ 32 ∷ 98 ∷ 101 ∷ 102 ∷ 111 ∷ 114 ∷ 101 ∷ 32 ∷ 97 ∷ 110 ∷ 100 ∷ 32 ∷ 97 ∷ 110 ∷ 111 ∷ 116 ∷ 104 ∷ 101 ∷ 114 ∷ 32 ∷ 101 ∷ 118 ∷ 101 ∷ 110 ∷ 116 ∷ 10 ∷ [])))

-- "refused N: event P of the first stretch: words"
abbrev pub refused_event : Refusal → ℕ → List ℕ → List ℕ
refused_event why place words =
    refused_text why
    ++ ((58 ∷ 32 ∷ 101 ∷ 118 ∷ 101 ∷ 110 ∷ 116 ∷ [])
    ++ (field_of place
    ++ ((32 ∷ 111 ∷ 102 ∷ 32 ∷ 116 ∷ 104 ∷ 101 ∷ 32 ∷ 102 ∷ 105 ∷ 114 ∷ 115 ∷ 116 ∷ 32 ∷ 115 ∷ 116 ∷ 114 ∷ 101 ∷ 116 ∷ 99 ∷ 104 ∷ 58 ∷ 32 ∷ [])
    ++ (words ++ feed))))

-- "refused: board N: "ARG" is not a list of propositions"
abbrev pub no_board : ℕ → List ℕ → List ℕ
no_board board arg =
    (114 ∷ 101 ∷ 102 ∷ 117 ∷ 115 ∷ 101 ∷ 100 ∷ 58 ∷ 32 ∷ 98 ∷ 111 ∷ 97 ∷ 114 ∷ 100 ∷ [])
    ++ (field_of board ++ ((58 ∷ 32 ∷ 34 ∷ []) ++ (shown_name arg ++ (34 ∷ 32 ∷ 105 ∷ 115 ∷ 32 ∷ 110 ∷ 111 ∷ 116 ∷ 32 ∷ 97 ∷ 32 ∷ 108 ∷ 105 ∷ 115 ∷ 116 ∷ 32 ∷ 111 ∷ 102 ∷ 32 ∷ 112 ∷ 114 ∷ 111 ∷ 112 ∷ 111 ∷ 115 ∷ 105 ∷ 116 ∷ 105 ∷ 111 ∷ 110 ∷ 115 ∷ 10 ∷ []))))

-- what failed, and the name of it
abbrev pub failed_text : List ℕ → List ℕ → List ℕ
failed_text doing name = doing ++ shown_name name
