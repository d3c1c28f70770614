-- A report does not depend on the order of its runs (`order-free`): rows may be added in either order (`added-comm`), so that two runs in front
-- may change places, and whatever stands behind them adds the same (`reports-determine`). Assumes nothing.
use mathlib.Core.Path.{◌≡◌, refl, sym, ap, ◌∙◌}
use mathlib.Core.List.{List, [], ◌∷◌}
use Prim.Native.Nat.{ℕ, min, max}
use native.Mathlib.Nat.{add_comm, min_comm, max_comm}
use lib.ListN.{length}
use Rattle.answers.specs.declared.Verdict.TheVariants.{False}
use Rattle.reports.specs.Runs.{Run}
use Rattle.reports.specs.Report.{those, came_to, ticks_of, chosen, row_of, added}
use Rattle.reports.specs.Order.{Reordered, none, keep, swap, then}
use Rattle.reports.proofs.Figures.{of-both-comm}
use Rattle.reports.proofs.Adding.{ticks-none, report-both, reports-determine}

-- where two lists have no ticks of false, what is chosen of them is the same
none-chosen : (op : ℕ → ℕ → ℕ) (r : ℕ) (xs ys : List Run) → length (those (came_to r False) xs) ≡ 0 → length (those (came_to r False) ys) ≡ 0
    → chosen op (ticks_of r xs) ≡ chosen op (ticks_of r ys)
none-chosen op r xs ys e f = ap (chosen op) (ticks-none r xs e ∙ sym (ticks-none r ys f))

pub added-comm : (xs ys : List Run) (r : ℕ) → added (row_of xs r) (row_of ys r) ≡ added (row_of ys r) (row_of xs r)
unfolding row_of added
added-comm xs ys r =
    let a = row_of xs r in
    let b = row_of ys r in
    λ i.
    record {
      runs = add_comm a.runs b.runs i;
      falses = add_comm a.falses b.falses i;
      trues = add_comm a.trues b.trues i;
      pendings = add_comm a.pendings b.pendings i;
      earliest = of-both-comm min min_comm a.falses a.earliest b.falses b.earliest (none-chosen min r xs ys) i;
      latest = of-both-comm max max_comm a.falses a.latest b.falses b.latest (none-chosen max r xs ys) i;
      sum = add_comm a.sum b.sum i;
    }

pub order-free : {xs ys : List Run} → Reordered xs ys → (r : ℕ) → row_of xs r ≡ row_of ys r
order-free none r = refl
order-free (keep x {xs} {ys} o) r = reports-determine (x ∷ []) (x ∷ []) xs ys (λ r. refl) (order-free o) r
order-free (swap x y xs) r =
    let a = x ∷ [] in
    let b = y ∷ [] in
    reports-determine (x ∷ y ∷ []) (y ∷ x ∷ []) xs xs (λ r. report-both a b r ∙ added-comm a b r ∙ sym (report-both b a r)) (λ r. refl) r
order-free (then o p) r = order-free o r ∙ order-free p r
