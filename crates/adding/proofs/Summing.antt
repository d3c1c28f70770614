-- The rows of two reports, rule by rule: with no more than 65,536 runs together, and numbers that agree, their sums fit (`rows_fit`). A row's
-- runs are no more than those of all rows, so its false ones are few, and its sum is at most that of as many ticks of 32 bits. Assumes nothing.
use mathlib.Core.Path.{◌≡◌, sym, ap, subst, ◌∙◌}
use mathlib.Core.List.{List}
use Prim.Native.Nat.{ℕ, ◌-◌, ◌*◌, ◌<◌, ◌≤◌}
use native.Mathlib.Nat.{mul-le-mul}
use native.Mathlib.Omega.{arith}
use native.Mathlib.Decide.{ℕ_discrete}
use Rattle.limits.specs.Limits.{runs_most, rules_most}
use Rattle.le.proofs.Laws.{Bytes}
use Rattle.reports.specs.declared.Row.{Row}
use Rattle.reports.specs.Bytes.{row_length, row_in, row_agrees, runs_told}
use Rattle.reports.specs.Rows.{FitsRow}
use Rattle.reports.proofs.Sums.{sum-part}
use Rattle.reports.proofs.ReadBack.{row_fits, agree-is}
use Rattle.reports.proofs.Agrees.{Agrees, agrees-is}
use Rattle.rows.specs.Sums.{RowsFit}
use Rattle.adding.specs.Add.{AddAsk}

-- a row's runs are no more than those of all rows
row-few : (s : List ℕ) (r : ℕ) → r < rules_most → (row_in s r).runs ≤ runs_told s rules_most
row-few s r h = sum-part (λ k. (row_in s k).runs) rules_most r h

-- the sum of few ticks is small
sum-small : (w : Row) → Agrees w → FitsRow w → w.runs ≤ runs_most → w.sum ≤ 4294967295 * runs_most
sum-small w a fits few = go (ℕ_discrete w.falses 0)
  where
    go : Dec (w.falses ≡ 0) → w.sum ≤ 4294967295 * runs_most
    go (yes z) = let t = (a.without z).sum in omega arith
    go (no n) =
        let runs = a.runs in
        let span = a.with-some (omega arith) in
        let m = span.most in
        let l = fits.latest in
        let e = fits.earliest in
        let p : (w.falses - 1) * w.latest ≤ (runs_most - 1) * 4294967295 = mul-le-mul {n₂ = runs_most - 1} {m₂ = 4294967295} (omega arith) (omega arith) in
        omega arith

module _ {total night : List ℕ} (a : AddAsk total night) (total-bytes : Bytes total) (night-bytes : Bytes night) (r : ℕ) (h : r < rules_most) where
  pub rows_fit : {x y : Row} → x ≡ row_in total r → y ≡ row_in night r → RowsFit x y
  rows_fit {x} {y} e f =
      let few = a.few in
      let m = row-few total r h in
      let n = row-few night r h in
      let p = agrees-is x (ap row_agrees e ∙ agree-is total rules_most a.total-agrees r h) in
      let q = agrees-is y (ap row_agrees f ∙ agree-is night rules_most a.night-agrees r h) in
      let g = ap (λ (w : Row). w.runs) e in
      let k = ap (λ (w : Row). w.runs) f in
      let s = sum-small x p (subst FitsRow (sym e) (row_fits total (row_length * r) total-bytes)) (omega arith) in
      let t = sum-small y q (subst FitsRow (sym f) (row_fits night (row_length * r) night-bytes)) (omega arith) in
      let u = p.runs in
      let v = q.runs in
      record { runs = omega arith; falses = omega arith; trues = omega arith; pendings = omega arith; sum = omega arith }
