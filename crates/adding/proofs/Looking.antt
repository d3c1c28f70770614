-- The look over a report's rows: those below r have been looked at (`LookedTo`), and one more is (`look-more`). Assumes nothing.
use mathlib.Core.Path.{◌≡◌, refl, ap, ap₂, ◌∙◌}
use mathlib.Core.Bool.{Bool, true, false, ◌&&◌}
use mathlib.Core.List.{List}
use Prim.Native.Nat.{ℕ, ◌+◌, ◌*◌, ◌^◌, ◌<◌, ◌≤◌}
use native.Mathlib.Numerals.{add-one}
use native.Mathlib.Omega.{arith}
use Rattle.limits.specs.Limits.{rules_most}
use Rattle.lists.specs.Tests.{both}
use Rattle.reports.specs.declared.Row.{Row}
use Rattle.reports.specs.Bytes.{row_length, row_at, row_agrees, rows_agree, runs_told}
use Rattle.reports.specs.Rows.{sum_below}
use Rattle.adding.specs.Add.{Surveyed}

-- the code's `&`
pub and-both : (a b : Bool) → a && b ≡ both a b
unfolding both
and-both true b = refl
and-both false b = refl

-- what is known of the rows below r
pub record LookedTo (s : List ℕ) (runs : ℕ) (agrees : Bool) (r : ℕ) : Type 0 where
  pub inside : r ≤ rules_most
  pub told : runs ≡ runs_told s r
  pub agree : agrees ≡ rows_agree s r
  pub few : runs ≤ 4294967295 * r

pub looked-none : (s : List ℕ) → LookedTo s 0 true 0
unfolding sum_below rows_agree
looked-none s = record { inside = omega arith; told = refl; agree = refl; few = omega arith }

module _ {s : List ℕ} {runs r : ℕ} {agrees : Bool} (l : LookedTo s runs agrees r) where
  pub look-more : r < rules_most → {w : Row} → w ≡ row_at s (row_length * r) → {x : ℕ} → x ≡ w.runs → x < 2 ^ 32 → {a : Bool} → a ≡ row_agrees w
      → LookedTo s (runs + x) (agrees && a) (r + 1)
  unfolding sum_below rows_agree
  look-more h {w} row e fits {a} agreed =
      let f = l.few in
      rw add-one
      (record {
        inside = omega arith;
        told = ap₂ ◌+◌ l.told (e ∙ ap (λ (v : Row). v.runs) row);
        agree = and-both agrees a ∙ ap₂ both l.agree (agreed ∙ ap row_agrees row);
        few = omega arith;
      })

  pub looked-all : rules_most ≤ r → Surveyed s (record { runs = runs; agrees = agrees })
  looked-all h =
      let i = l.inside in
      let all : r ≡ rules_most = omega arith in
      record { runs = l.told ∙ ap (runs_told s) all; agrees = l.agree ∙ ap (rows_agree s) all; few = let f = l.few in omega arith }
