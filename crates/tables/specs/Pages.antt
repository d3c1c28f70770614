-- The lines of a report, and its page. Assumes nothing: these are definitions.
use Rattle.std.specs.Prelude.{List, [], ◌∷◌, ◌++◌, ℕ, zero, suc, eqb}
use Rattle.lists.specs.Tests.{pick}
use Rattle.limits.specs.Limits.{rules_most}
use Rattle.lines.specs.Lines.{decimal_of, feed}
use Rattle.reports.specs.declared.Row.{Row}
use Rattle.reports.specs.Bytes.{row_in}
use Rattle.reports.specs.Rows.{sum_below}
use Rattle.tables.specs.declared.Sheet.{Sheet}
use Rattle.tables.specs.declared.Sheet.TheVariants.{Table, Values}
use Rattle.tables.specs.Cells.{cell_of, further_of}
use Rattle.tables.specs.Average.{average_text}

-- ---- the columns of a table
-- the rule's number
abbrev pub rule_width : ℕ
rule_width = 4

-- runs, false and true
abbrev pub count_width : ℕ
count_width = 5

abbrev pub pending_width : ℕ
pending_width = 7

-- the earliest and the latest tick
abbrev pub tick_width : ℕ
tick_width = 10

abbrev pub average_width : ℕ
average_width = 12

-- ---- a line
-- the rule's number, its runs, and how many of them came to each verdict
abbrev pub counts_text : Sheet → ℕ → Row → List ℕ
counts_text sheet rule w =
    cell_of sheet rule_width (decimal_of rule)
    ++ (further_of sheet count_width (decimal_of w.runs)
    ++ (further_of sheet count_width (decimal_of w.falses)
    ++ (further_of sheet count_width (decimal_of w.trues) ++ further_of sheet pending_width (decimal_of w.pendings))))

-- the sum of the ticks of false, which stands among values and in no table
abbrev pub sum_text : Sheet → ℕ → List ℕ
sum_text Table sum = []
sum_text Values sum = further_of Values 0 (decimal_of sum)

-- the ticks of a rule that was false
abbrev pub span_text : Sheet → Row → List ℕ
span_text sheet w =
    further_of sheet tick_width (decimal_of w.earliest)
    ++ (further_of sheet tick_width (decimal_of w.latest) ++ (sum_text sheet w.sum ++ further_of sheet average_width (average_text w.sum w.falses)))

-- "no false"
abbrev pub no_false : List ℕ
no_false = 110 ∷ 111 ∷ 32 ∷ 102 ∷ 97 ∷ 108 ∷ 115 ∷ 101 ∷ []

-- what stands for the ticks of a rule that was never false: among values the earliest, the latest, the sum and the average
abbrev pub none_text : Sheet → List ℕ
none_text Table = further_of Table tick_width no_false
none_text Values = (44 ∷ no_false) ++ ((44 ∷ no_false) ++ ((44 ∷ 48 ∷ []) ++ (44 ∷ no_false)))

unfoldable pub ticks_text : Sheet → Row → List ℕ
ticks_text sheet w = pick (eqb w.falses 0) (none_text sheet) (span_text sheet w)

-- a rule's line
abbrev pub line_of : Sheet → ℕ → Row → List ℕ
line_of sheet rule w = counts_text sheet rule w ++ (ticks_text sheet w ++ feed)

-- ---- a page
-- a rule's line, where the rule ran
unfoldable pub row_line : Sheet → ℕ → Row → List ℕ
row_line sheet rule w = pick (eqb w.runs 0) [] (line_of sheet rule w)

-- the lines of the rules below n
unfoldable pub lines_below : Sheet → List ℕ → ℕ → List ℕ
lines_below sheet s zero = []
lines_below sheet s (suc n) = lines_below sheet s n ++ row_line sheet n (row_in s n)

-- "rule   runs  false   true  pending    earliest      latest       average", or "rule,runs,false,true,pending,earliest,latest,sum,average"
abbrev pub header_of : Sheet → List ℕ
header_of Table = 114 ∷ 117 ∷ 108 ∷ 101 ∷ 32 ∷ 32 ∷ 32 ∷ 114 ∷ 117 ∷ 110 ∷ 115 ∷ 32 ∷ 32 ∷ 102 ∷ 97 ∷ 108 ∷ 115 ∷ 101 ∷ 32 ∷ 32 ∷ 32 ∷ 116 ∷ 114 ∷ 117 ∷ 101 ∷ 32 ∷ 32 ∷ 112 ∷ 101 ∷ 110 ∷ 100 ∷ 105 ∷ 110 ∷ 103 ∷ 32 ∷ 32 ∷ 32 ∷ 32 ∷ 101 ∷ 97 ∷ 114 ∷ 108 ∷ 105 ∷ 101 ∷ 115 ∷ 116 ∷ 32 ∷ 32 ∷ 32 ∷ 32 ∷ 32 ∷ 32 ∷ 108 ∷ 97 ∷ 116 ∷ 101 ∷ 115 ∷ 116 ∷ 32 ∷ 32 ∷ 32 ∷ 32 ∷ 32 ∷ 32 ∷ 32 ∷ 97 ∷ 118 ∷ 101 ∷ 114 ∷ 97 ∷ 103 ∷ 101 ∷ 10 ∷ []
header_of Values = 114 ∷ 117 ∷ 108 ∷ 101 ∷ 44 ∷ 114 ∷ 117 ∷ 110 ∷ 115 ∷ 44 ∷ 102 ∷ 97 ∷ 108 ∷ 115 ∷ 101 ∷ 44 ∷ 116 ∷ 114 ∷ 117 ∷ 101 ∷ 44 ∷ 112 ∷ 101 ∷ 110 ∷ 100 ∷ 105 ∷ 110 ∷ 103 ∷ 44 ∷ 101 ∷ 97 ∷ 114 ∷ 108 ∷ 105 ∷ 101 ∷ 115 ∷ 116 ∷ 44 ∷ 108 ∷ 97 ∷ 116 ∷ 101 ∷ 115 ∷ 116 ∷ 44 ∷ 115 ∷ 117 ∷ 109 ∷ 44 ∷ 97 ∷ 118 ∷ 101 ∷ 114 ∷ 97 ∷ 103 ∷ 101 ∷ 10 ∷ []

-- the page of a report
abbrev pub page_of : Sheet → List ℕ → List ℕ
page_of sheet s = header_of sheet ++ lines_below sheet s rules_most

-- ---- what it says in all
-- 1 of a rule that ran
unfoldable pub ran_once : ℕ → ℕ
ran_once runs = pick (eqb runs 0) 0 1

-- how many of the rules below n ran
abbrev pub ran_below : List ℕ → ℕ → ℕ
ran_below s n = sum_below (λ r. ran_once (row_in s r).runs) n

-- ---- the most bytes
-- of a rule's counts: five numbers, and a gap before each but the first
abbrev pub counts_most : ℕ
counts_most = 108

-- of what is said of ticks: three numbers and an average, each behind a gap
abbrev pub ticks_most : ℕ
ticks_most = 109

-- of a line: both, and a line feed
abbrev pub line_most : ℕ
line_most = 218

abbrev pub header_most : ℕ
header_most = 73
