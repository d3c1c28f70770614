-- The columns of a table are wide enough: in the report of a night every cell is as wide as its column (`columns`), so that the columns stand
-- below each other. A night has at most 65,536 runs, a tick at most ten digits, and the average is no more than the highest tick. Assumes
-- nothing.
use mathlib.Core.Path.{◌≡◌, refl, ◌∙◌}
use mathlib.Core.List.{List, ◌∷◌}
use Prim.Native.Nat.{ℕ, ◌+◌, ◌-◌, ◌*◌, ◌/◌, ◌%◌, ◌^◌, ◌<◌, ◌≤◌}
use native.Mathlib.Nat.{mul-le-mul_left, div-lt_iff_lt-mul}
use native.Mathlib.Omega.{arith}
use lib.ListN.{length, replicate, length-append, length-replicate}
use Rattle.limits.specs.Limits.{rules_most}
use Rattle.lines.specs.Lines.{decimal_of}
use Rattle.lines.proofs.Decimals.{decimal-short}
use Rattle.reports.specs.declared.Row.{Row}
use Rattle.reports.specs.Runs.{Run}
use Rattle.reports.specs.Report.{row_of}
use Rattle.reports.specs.Nights.{Night}
use Rattle.reports.proofs.Agreeing.{runs-few, night-fits, row-agrees}
use Rattle.reports.proofs.Agrees.{agrees-is}
use Rattle.tables.specs.declared.Sheet.TheVariants.{Table}
use Rattle.tables.specs.Average.{tenths_of, average_text}
use Rattle.tables.specs.Cells.{cell_of}
use Rattle.tables.specs.Pages.{rule_width, count_width, pending_width, tick_width, average_width, no_false}

-- each cell of a rule's line is as wide as its column
pub record InColumns (rule : ℕ) (w : Row) : Type 0 where
  pub rule-wide : length (cell_of Table rule_width (decimal_of rule)) ≡ rule_width
  pub runs_wide : length (cell_of Table count_width (decimal_of w.runs)) ≡ count_width
  pub falses-wide : length (cell_of Table count_width (decimal_of w.falses)) ≡ count_width
  pub trues-wide : length (cell_of Table count_width (decimal_of w.trues)) ≡ count_width
  pub pendings-wide : length (cell_of Table pending_width (decimal_of w.pendings)) ≡ pending_width
  pub earliest-wide : length (cell_of Table tick_width (decimal_of w.earliest)) ≡ tick_width
  pub latest-wide : length (cell_of Table tick_width (decimal_of w.latest)) ≡ tick_width
  pub average-wide : 0 < w.falses → length (cell_of Table average_width (average_text w.sum w.falses)) ≡ average_width
  pub none-wide : length (cell_of Table tick_width no_false) ≡ tick_width

-- a text that is no longer than its column
cell-wide : (width : ℕ) (text : List ℕ) → length text ≤ width → length (cell_of Table width text) ≡ width
cell-wide width text h =
    length-append (replicate (width - length text) 32) text ∙ (let e = length-replicate {A = ℕ} (width - length text) 32 in omega arith)

number-wide : (width n : ℕ) → 1 ≤ width → n < 10 ^ width → length (cell_of Table width (decimal_of n)) ≡ width
number-wide width n some h = cell-wide width (decimal_of n) (decimal-short n width some h)

-- the average of n ticks that are at most m is at most m
average-few : (sum n m : ℕ) → 0 < n → sum ≤ n * m → tenths_of sum n < 10 * m + 1
unfolding tenths_of
average-few sum n m some h =
    let p : (10 * m + 1) * (2 * n) ≡ 20 * (n * m) + 2 * n = omega arith in
    (div-lt_iff_lt-mul {k = 2 * n} {x = 20 * sum + n} {y = 10 * m + 1} (omega arith)).1 (omega arith)

average-short : (sum n : ℕ) → 0 < n → sum ≤ n * 4294967295 → length (average_text sum n) ≤ average_width
average-short sum n some h =
    let t = average-few sum n 4294967295 some h in
    let whole = decimal-short (tenths_of sum n / 10) 10 (omega arith) (omega arith) in
    let part = decimal-short (tenths_of sum n % 10) 1 (omega arith) (omega arith) in
    let e = length-append (decimal_of (tenths_of sum n / 10)) (46 ∷ decimal_of (tenths_of sum n % 10)) in
    omega arith

pub columns : (xs : List Run) → Night xs → (r : ℕ) → r < rules_most → InColumns r (row_of xs r)
columns xs night r h =
    let w = row_of xs r in
    let few = runs-few xs night r in
    let fits = night-fits xs night r in
    let agree = agrees-is w (row-agrees xs night.known r) in
    let counts = agree.runs in
    let low = fits.earliest in
    let high = fits.latest in
    record {
      rule-wide = number-wide rule_width r (omega arith) (omega arith);
      runs_wide = number-wide count_width w.runs (omega arith) (omega arith);
      falses-wide = number-wide count_width w.falses (omega arith) (omega arith);
      trues-wide = number-wide count_width w.trues (omega arith) (omega arith);
      pendings-wide = number-wide pending_width w.pendings (omega arith) (omega arith);
      earliest-wide = number-wide tick_width w.earliest (omega arith) (omega arith);
      latest-wide = number-wide tick_width w.latest (omega arith) (omega arith);
      average-wide = λ some.
          let most = (agree.with-some some).most in
          let p = mul-le-mul_left {m = w.latest} {n = 4294967295} (w.falses - 1) (omega arith) in
          let all : w.falses * 4294967295 ≡ 4294967295 + (w.falses - 1) * 4294967295 = omega arith in
          cell-wide average_width (average_text w.sum w.falses) (average-short w.sum w.falses some (omega arith));
      none-wide = refl;
    }
