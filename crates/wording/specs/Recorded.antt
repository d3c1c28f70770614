-- The lines of a recording that was mended, and of the watch of its first stretch, as bytes. Assumes nothing: these are definitions.
use Rattle.std.specs.Prelude.{List, [], ◌∷◌, ◌++◌, ℕ}
use Rattle.lines.specs.Lines.{field_of, verdict_text, feed}
use Rattle.answers.specs.declared.Verdict.{Verdict}
use Rattle.wording.specs.Accepted.{counted_text}

-- "break before record 7: counter 8, then 12"
abbrev pub break_line : ℕ → ℕ → ℕ → List ℕ
break_line place before counter =
    (98 ∷ 114 ∷ 101 ∷ 97 ∷ 107 ∷ 32 ∷ 98 ∷ 101 ∷ 102 ∷ 111 ∷ 114 ∷ 101 ∷ 32 ∷ 114 ∷ 101 ∷ 99 ∷ 111 ∷ 114 ∷ 100 ∷ [])
    ++ (field_of place ++ ((58 ∷ 32 ∷ 99 ∷ 111 ∷ 117 ∷ 110 ∷ 116 ∷ 101 ∷ 114 ∷ []) ++ (field_of before ++ ((44 ∷ 32 ∷ 116 ∷ 104 ∷ 101 ∷ 110 ∷ []) ++ (field_of counter ++ feed)))))

-- "recording of 12 records: 11 kept, 1"
abbrev pub records_text : ℕ → ℕ → ℕ → List ℕ
records_text records kept dropped =
    (114 ∷ 101 ∷ 99 ∷ 111 ∷ 114 ∷ 100 ∷ 105 ∷ 110 ∷ 103 ∷ 32 ∷ 111 ∷ 102 ∷ 32 ∷ [])
    ++ (counted_text records (114 ∷ 101 ∷ 99 ∷ 111 ∷ 114 ∷ 100 ∷ []) ++ ((58 ∷ []) ++ (field_of kept ++ ((32 ∷ 107 ∷ 101 ∷ 112 ∷ 116 ∷ 44 ∷ []) ++ field_of dropped))))

-- the most bytes of that
abbrev pub records_text_most : ℕ
records_text_most = 90

-- "recording of 12 records: 11 kept, 1 dropped, 2 breaks, 5 in the first stretch"
abbrev pub recording_line : ℕ → ℕ → ℕ → ℕ → ℕ → List ℕ
recording_line records kept dropped breaks first =
    records_text records kept dropped
    ++ ((32 ∷ 100 ∷ 114 ∷ 111 ∷ 112 ∷ 112 ∷ 101 ∷ 100 ∷ 44 ∷ 32 ∷ []) ++ (counted_text breaks (98 ∷ 114 ∷ 101 ∷ 97 ∷ 107 ∷ []) ++ ((44 ∷ []) ++ (field_of first ++ (32 ∷ 105 ∷ 110 ∷ 32 ∷ 116 ∷ 104 ∷ 101 ∷ 32 ∷ 102 ∷ 105 ∷ 114 ∷ 115 ∷ 116 ∷ 32 ∷ 115 ∷ 116 ∷ 114 ∷ 101 ∷ 116 ∷ 99 ∷ 104 ∷ 10 ∷ [])))))

-- "watched 4 of 5 ticks"
abbrev pub ticks_text : ℕ → ℕ → List ℕ
ticks_text closed ticks = (119 ∷ 97 ∷ 116 ∷ 99 ∷ 104 ∷ 101 ∷ 100 ∷ []) ++ (field_of closed ++ ((32 ∷ 111 ∷ 102 ∷ 32 ∷ []) ++ counted_text ticks (116 ∷ 105 ∷ 99 ∷ 107 ∷ [])))

-- the most bytes of that
abbrev pub ticks_most : ℕ
ticks_most = 58

-- "watched 4 of 5 ticks of the first stretch: false"
abbrev pub watched_line : ℕ → ℕ → Verdict → List ℕ
watched_line closed ticks verdict =
    ticks_text closed ticks
    ++ ((32 ∷ 111 ∷ 102 ∷ 32 ∷ 116 ∷ 104 ∷ 101 ∷ 32 ∷ 102 ∷ 105 ∷ 114 ∷ 115 ∷ 116 ∷ 32 ∷ 115 ∷ 116 ∷ 114 ∷ 101 ∷ 116 ∷ 99 ∷ 104 ∷ 58 ∷ []) ++ (verdict_text verdict ++ feed))
