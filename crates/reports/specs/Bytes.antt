-- The bytes of a report, its rows as they are read from bytes, and when the numbers of bytes agree so that they can be a report.
-- Assumes nothing: these are definitions.
use Rattle.std.specs.Prelude.{ℕ, zero, suc, ◌+◌, ◌-◌, ◌*◌, Bool, true, List, [], ◌++◌, eqb, leb}
use Rattle.limits.specs.Limits.{rules_most}
use Rattle.lists.specs.Tests.{pick, both}
use Rattle.le.specs.Le.{le, le_at}
use Rattle.reports.specs.declared.Row.{Row}
use Rattle.reports.specs.Rows.{sum_below}

-- ---- written
abbrev pub row_length : ℕ
row_length = 32

abbrev pub report_length : ℕ
report_length = 8192

-- six numbers of four bytes, and the sum in eight
unfoldable pub row_bytes : Row → List ℕ
row_bytes w = le 4 w.runs ++ (le 4 w.falses ++ (le 4 w.trues ++ (le 4 w.pendings ++ (le 4 w.earliest ++ (le 4 w.latest ++ le 8 w.sum)))))

-- the rows of the rules below n
unfoldable pub rows_of : (ℕ → Row) → ℕ → List ℕ
rows_of f zero = []
rows_of f (suc n) = rows_of f n ++ row_bytes (f n)

-- a report: the rows of all rules
abbrev pub report_bytes : (ℕ → Row) → List ℕ
report_bytes f = rows_of f rules_most

-- ---- read
-- the row in the bytes at a place
unfoldable pub row_at : List ℕ → ℕ → Row
row_at s at =
    record {
      runs = le_at s at 4;
      falses = le_at s (at + 4) 4;
      trues = le_at s (at + 8) 4;
      pendings = le_at s (at + 12) 4;
      earliest = le_at s (at + 16) 4;
      latest = le_at s (at + 20) 4;
      sum = le_at s (at + 24) 8;
    }

-- that of rule r
abbrev pub row_in : List ℕ → ℕ → Row
row_in s r = row_at s (row_length * r)

-- ---- whether they agree
-- f ticks, f at least 1, can have this earliest and latest one and this sum
abbrev pub span_ok : ℕ → ℕ → ℕ → ℕ → Bool
span_ok f earliest latest sum =
    both (leb earliest latest) (both (leb (latest + (f - 1) * earliest) sum) (leb sum (earliest + (f - 1) * latest)))

-- without a false there are no ticks
abbrev pub no_span : ℕ → ℕ → ℕ → Bool
no_span earliest latest sum = both (eqb earliest 0) (both (eqb latest 0) (eqb sum 0))

-- some runs can have this row
unfoldable pub row_agrees : Row → Bool
row_agrees w =
    both (eqb w.runs (w.falses + w.trues + w.pendings))
    (pick (eqb w.falses 0) (no_span w.earliest w.latest w.sum) (span_ok w.falses w.earliest w.latest w.sum))

-- the rows of the rules below n do
unfoldable pub rows_agree : List ℕ → ℕ → Bool
rows_agree s zero = true
rows_agree s (suc n) = both (rows_agree s n) (row_agrees (row_in s n))

-- the runs that the rows of the rules below n have
abbrev pub runs_told : List ℕ → ℕ → ℕ
runs_told s n = sum_below (λ r. (row_in s r).runs) n
