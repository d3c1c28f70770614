-- The rows of the tables: a rule's counts fit together into one number (`counts_fit`); and what the rows are where the tables hold known
-- runs: the rows of these runs (`table-rows`). Assumes nothing.
use mathlib.Core.Path.{◌≡◌, refl, sym, ap, ap₂, ◌∙◌}
use mathlib.Core.List.{List, [], ◌∷◌}
use Prim.Native.Nat.{ℕ, ◌+◌, ◌*◌, ◌<◌, ◌≤◌, min, max}
use native.Mathlib.Omega.{arith}
use lib.ListN.{length, get_or, replicate, length-map, get_or-replicate}
use lib.Dec.{eqb}
use borrow.Author.Tests.{ne_eqb}
use Rattle.limits.specs.Limits.{runs_most, rules_most}
use Rattle.lists.specs.Tests.{pick}
use Rattle.lists.proofs.Stretches.{zeros-at}
use Rattle.answers.specs.Said.{verdict_number}
use Rattle.answers.specs.declared.Verdict.TheVariants.{False, True, Pending}
use Rattle.reports.specs.Runs.{Run}
use Rattle.reports.specs.Report.{those, came_to, ticks_of, chosen, summed, row_of}
use Rattle.reports.specs.Bytes.{report_bytes}
use Rattle.reports.specs.Nights.{AllKnown}
use Rattle.reports.proofs.Known.{runs-verdicts}
use Rattle.reports.proofs.ReadBack.{rows_same}
use Rattle.reports.proofs.Those.{those-few}
use Rattle.tallying.specs.declared.RunTables.{RunTables}
use Rattle.tallying.specs.Tables.{highest_tick, count_at, chosen_from, TalliedRuns, CountsFew, RowAsk, table_row}

-- ---- a row
pub counts_fit : {ts : RunTables} {r : ℕ} → RowAsk r ts
    → get_or ts.counts (count_at 0 r) 0 + get_or ts.counts (count_at 1 r) 0 + get_or ts.counts (count_at 2 r) 0 ≤ 3 * runs_most
counts_fit {r = r} p = let a = p.few False r p.rule-few in let b = p.few True r p.rule-few in let d = p.few Pending r p.rule-few in omega arith

-- ---- of known runs
module _ {xs : List Run} {ts : RunTables} (t : TalliedRuns xs ts) where
  pub counts-few : length xs ≤ runs_most → CountsFew ts
  counts-few few v r h = let e = t.counted v r h in let s = those-few (came_to r v) xs in omega arith

  -- where a number stands for no ticks, it gives way to the 0 of a row
  from_is : (op : ℕ → ℕ → ℕ) (u : ℕ) (ts : List ℕ) {n : ℕ} → n ≡ length ts → pick (eqb n 0) 0 (chosen_from op u ts) ≡ chosen op ts
  unfolding chosen_from chosen pick
  from_is op u [] e = rw e
  from_is op u (t ∷ ts) e = rw (e, ne_eqb (length (t ∷ ts)) 0 (λ z. omega arith))

  none_is : (op : ℕ → ℕ → ℕ) (ts : List ℕ) → chosen_from op 0 ts ≡ chosen op ts
  unfolding chosen_from chosen pick
  none_is op [] = refl
  none_is op (t ∷ ts) = rw (ne_eqb (length (t ∷ ts)) 0 (λ z. omega arith))

  table-row : AllKnown xs → (r : ℕ) → r < rules_most → table_row ts r ≡ row_of xs r
  unfolding table_row row_of
  table-row known r h =
      let a = t.counted False r h in
      let b = t.counted True r h in
      let c = t.counted Pending r h in
      let all = ap₂ ◌+◌ (ap₂ ◌+◌ a b) c ∙ sym (runs-verdicts xs known r) in
      let long = a ∙ sym (length-map (those (came_to r False) xs) (λ (y : Run). y.tick)) in
      let first = ap (λ (k : ℕ). pick (eqb (get_or ts.counts (count_at 0 r) 0) 0) 0 k) (t.first r h) ∙ from_is min highest_tick (ticks_of r xs) long in
      let last = t.last r h ∙ none_is max (ticks_of r xs) in
      λ i. record { runs = all i; falses = a i; trues = b i; pendings = c i; earliest = first i; latest = last i; sum = t.total r h i }

  pub table-rows : AllKnown xs → report_bytes (table_row ts) ≡ report_bytes (row_of xs)
  table-rows known = rows_same (table_row ts) (row_of xs) rules_most (table-row known)

-- ---- of no runs
pub none_tallied : TalliedRuns [] (record { counts = replicate (rules_most * 3) 0; earliest = replicate rules_most highest_tick; latest = replicate rules_most 0; sums = replicate rules_most 0 })
unfolding those chosen_from chosen summed pick
none_tallied =
    record {
      counted = λ v r h. zeros-at (rules_most * 3) (count_at (verdict_number v) r);
      first = λ r h. get_or-replicate {A = ℕ} rules_most r highest_tick 0 (omega arith);
      last = λ r h. zeros-at rules_most r;
      total = λ r h. zeros-at rules_most r;
      small = λ r h. let z = zeros-at rules_most r in omega arith;
    }
