-- Worked lines: two rows in a table and among values, a row of zeros, and averages that are rounded. One table, one theorem, `worked-lines`, by
-- computation. Assumes nothing.
use mathlib.Core.Path.{◌≡◌, refl}
use mathlib.Core.List.{[], ◌∷◌}
use Rattle.lists.specs.Tests.{pick}
use Rattle.lines.specs.Lines.{places, decimal_of}
use Rattle.reports.specs.declared.Row.{Row}
use Rattle.tables.specs.declared.Sheet.TheVariants.{Table, Values}
use Rattle.tables.specs.Average.{tenths_of, average_text}
use Rattle.tables.specs.Pages.{ticks_text, row_line}

-- false in ticks 5, 8 and 40
abbrev spread : Row
spread = record { runs = 12; falses = 3; trues = 8; pendings = 1; earliest = 5; latest = 40; sum = 53 }

-- never false
abbrev kept : Row
kept = record { runs = 65536; falses = 0; trues = 65536; pendings = 0; earliest = 0; latest = 0; sum = 0 }

-- no runs
abbrev idle : Row
idle = record { runs = 0; falses = 0; trues = 0; pendings = 0; earliest = 0; latest = 0; sum = 0 }

pub record WorkedLines : Type 0 where
  -- 0     12      3      8        1           5          40          17.7
  pub table-some : row_line Table 0 spread ≡ 32 ∷ 32 ∷ 32 ∷ 48 ∷ 32 ∷ 32 ∷ 32 ∷ 32 ∷ 32 ∷ 49 ∷ 50 ∷ 32 ∷ 32 ∷ 32 ∷ 32 ∷ 32 ∷ 32 ∷ 51 ∷ 32 ∷ 32 ∷ 32 ∷ 32 ∷ 32 ∷ 32 ∷ 56 ∷ 32 ∷ 32 ∷ 32 ∷ 32 ∷ 32 ∷ 32 ∷ 32 ∷ 32 ∷ 49 ∷ 32 ∷ 32 ∷ 32 ∷ 32 ∷ 32 ∷ 32 ∷ 32 ∷ 32 ∷ 32 ∷ 32 ∷ 32 ∷ 53 ∷ 32 ∷ 32 ∷ 32 ∷ 32 ∷ 32 ∷ 32 ∷ 32 ∷ 32 ∷ 32 ∷ 32 ∷ 52 ∷ 48 ∷ 32 ∷ 32 ∷ 32 ∷ 32 ∷ 32 ∷ 32 ∷ 32 ∷ 32 ∷ 32 ∷ 32 ∷ 49 ∷ 55 ∷ 46 ∷ 55 ∷ 10 ∷ []
  -- 7  65536      0  65536        0    no false
  pub table_none : row_line Table 7 kept ≡ 32 ∷ 32 ∷ 32 ∷ 55 ∷ 32 ∷ 32 ∷ 54 ∷ 53 ∷ 53 ∷ 51 ∷ 54 ∷ 32 ∷ 32 ∷ 32 ∷ 32 ∷ 32 ∷ 32 ∷ 48 ∷ 32 ∷ 32 ∷ 54 ∷ 53 ∷ 53 ∷ 51 ∷ 54 ∷ 32 ∷ 32 ∷ 32 ∷ 32 ∷ 32 ∷ 32 ∷ 32 ∷ 32 ∷ 48 ∷ 32 ∷ 32 ∷ 32 ∷ 32 ∷ 110 ∷ 111 ∷ 32 ∷ 102 ∷ 97 ∷ 108 ∷ 115 ∷ 101 ∷ 10 ∷ []
  -- 0,12,3,8,1,5,40,53,17.7
  pub values-some : row_line Values 0 spread ≡ 48 ∷ 44 ∷ 49 ∷ 50 ∷ 44 ∷ 51 ∷ 44 ∷ 56 ∷ 44 ∷ 49 ∷ 44 ∷ 53 ∷ 44 ∷ 52 ∷ 48 ∷ 44 ∷ 53 ∷ 51 ∷ 44 ∷ 49 ∷ 55 ∷ 46 ∷ 55 ∷ 10 ∷ []
  -- 7,65536,0,65536,0,no false,no false,0,no false
  pub values-none : row_line Values 7 kept ≡ 55 ∷ 44 ∷ 54 ∷ 53 ∷ 53 ∷ 51 ∷ 54 ∷ 44 ∷ 48 ∷ 44 ∷ 54 ∷ 53 ∷ 53 ∷ 51 ∷ 54 ∷ 44 ∷ 48 ∷ 44 ∷ 110 ∷ 111 ∷ 32 ∷ 102 ∷ 97 ∷ 108 ∷ 115 ∷ 101 ∷ 44 ∷ 110 ∷ 111 ∷ 32 ∷ 102 ∷ 97 ∷ 108 ∷ 115 ∷ 101 ∷ 44 ∷ 48 ∷ 44 ∷ 110 ∷ 111 ∷ 32 ∷ 102 ∷ 97 ∷ 108 ∷ 115 ∷ 101 ∷ 10 ∷ []
  pub table-idle : row_line Table 3 idle ≡ []
  pub values-idle : row_line Values 3 idle ≡ []
  -- 0.3: a half is rounded up
  pub half_up : average_text 1 4 ≡ 48 ∷ 46 ∷ 51 ∷ []
  -- 0.2
  pub less-down : average_text 49 200 ≡ 48 ∷ 46 ∷ 50 ∷ []
  -- 2.0: the tenths are carried over
  pub carried : average_text 39 20 ≡ 50 ∷ 46 ∷ 48 ∷ []

pub worked-lines : WorkedLines
unfolding row_line ticks_text tenths_of decimal_of places pick
worked-lines =
    record {
      table-some = refl;
      table_none = refl;
      values-some = refl;
      values-none = refl;
      table-idle = refl;
      values-idle = refl;
      half_up = refl;
      less-down = refl;
      carried = refl;
    }
