-- The report of a night tells what its runs come to (`lists_agree`). Counts are at most the runs, and ticks have 32 bits, so that at most 65,536 of
-- them have a sum of 48 (`sum-few`); so each row fits its bytes (`night-fits`) and is read back. Its numbers agree (`row-agrees`): the runs are
-- those of the three verdicts, and the ticks have a least one, a greatest and a sum, or there are none. With `report-length` and `report-bytes`
-- this is all that `some-list` asks of bytes. Assumes nothing.
use mathlib.Core.Path.{◌≡◌, ap, subst, ◌∙◌}
use mathlib.Core.Bool.{true}
use mathlib.Core.List.{List, [], ◌∷◌}
use Prim.Native.Nat.{ℕ, ◌-◌, ◌^◌, ◌<◌, ◌≤◌, min, max}
use native.Mathlib.Omega.{arith}
use lib.ListN.{length}
use Rattle.limits.specs.Limits.{runs_most}
use Rattle.answers.specs.declared.Verdict.TheVariants.{False, True, Pending}
use Rattle.reports.specs.Runs.{Run}
use Rattle.reports.specs.Report.{those, is_of, came_to, ticks_of, chosen, summed, row_of}
use Rattle.reports.specs.Bytes.{report_bytes, row_agrees}
use Rattle.reports.specs.Rows.{FitsRow}
use Rattle.reports.specs.Nights.{Each, AllKnown, Short, Night, ToldBy}
use Rattle.reports.proofs.Those.{those-few}
use Rattle.reports.proofs.Each.{each_more, each_map, each-those}
use Rattle.reports.proofs.Chosen.{chosen-elim}
use Rattle.reports.proofs.Adding.{ticks-length, ticks-none}
use Rattle.reports.proofs.Known.{runs-verdicts, runs-all}
use Rattle.reports.proofs.Spans.{CanSpan, sum-most, list-span}
use Rattle.reports.proofs.Agrees.{Tickless, agrees-of}
use Rattle.reports.proofs.ReadBack.{report-read, report-agree-of, report-told}

-- ---- the numbers fit
-- what is chosen of numbers below b is below b
chosen-below : (op : ℕ → ℕ → ℕ) (b : ℕ) → 0 < b → ((x y : ℕ) → x < b → y < b → op x y < b) → (ts : List ℕ) → Each (λ t. t < b) ts → chosen op ts < b
unfolding chosen
chosen-below op b h keeps [] a = h
chosen-below op b h keeps (t ∷ ts) a = chosen-elim op (λ x. x < b) keeps t ts a

ticks-short : (r : ℕ) (xs : List Run) → Each Short xs → Each (λ t. t < 2 ^ 32) (ticks_of r xs)
ticks-short r xs h = each_map (λ t. t < 2 ^ 32) (λ x. x.tick) (those (came_to r False) xs) (each-those Short (came_to r False) xs h)

pub sum-few : (xs : List Run) → Night xs → (r : ℕ) → (row_of xs r).sum < 2 ^ 48
unfolding row_of
sum-few xs night r =
    let ts = ticks_of r xs in
    let n = those-few (came_to r False) xs in
    let l = ticks-length r xs in
    let high = each_more (λ t. t < 2 ^ 32) (λ t. t ≤ 2 ^ 32 - 1) (λ t h. omega arith) ts (ticks-short r xs night.short) in
    let s = sum-most (2 ^ 32 - 1) ts high in
    omega (arith, night.few)

-- no count is above that of all runs
pub runs-few : (xs : List Run) → Night xs → (r : ℕ) → (row_of xs r).runs ≤ runs_most
unfolding row_of
runs-few xs night r = let n = those-few (is_of r) xs in omega (arith, night.few)

pub night-fits : (xs : List Run) → Night xs → (r : ℕ) → FitsRow (row_of xs r)
unfolding row_of
night-fits xs night r =
    let few = night.few in
    let short = ticks-short r xs night.short in
    record {
      runs = let n = those-few (is_of r) xs in omega arith;
      falses = let n = those-few (came_to r False) xs in omega arith;
      trues = let n = those-few (came_to r True) xs in omega arith;
      pendings = let n = those-few (came_to r Pending) xs in omega arith;
      earliest = chosen-below min (2 ^ 32) (omega arith) (λ x y p q. omega arith) (ticks_of r xs) short;
      latest = chosen-below max (2 ^ 32) (omega arith) (λ x y p q. omega arith) (ticks_of r xs) short;
      sum = let n = sum-few xs night r in omega arith;
    }

-- ---- the numbers agree
some-span : (n : ℕ) (ts : List ℕ) → length ts ≡ n → 0 < n → CanSpan n (chosen min ts) (chosen max ts) (summed ts)
some-span n [] e l = absurd (omega arith)
some-span n (t ∷ ts) e l = subst (λ (m : ℕ). CanSpan m (chosen min (t ∷ ts)) (chosen max (t ∷ ts)) (summed (t ∷ ts))) e (list-span t ts)

no_span : (ts : List ℕ) → ts ≡ [] → Tickless (chosen min ts) (chosen max ts) (summed ts)
unfolding chosen summed
no_span ts e = record { earliest = ap (chosen min) e; latest = ap (chosen max) e; sum = ap summed e }

pub row-agrees : (xs : List Run) → AllKnown xs → (r : ℕ) → row_agrees (row_of xs r) ≡ true
unfolding row_of
row-agrees xs k r =
    agrees-of (row_of xs r)
    (record {
      runs = runs-verdicts xs k r;
      without = λ e. no_span (ticks_of r xs) (ticks-none r xs e);
      with-some = λ l. some-span _ (ticks_of r xs) (ticks-length r xs) l;
    })

-- ---- all of it
pub lists_agree : (xs : List Run) → Night xs → ToldBy (report_bytes (row_of xs)) xs
lists_agree xs night =
    let fits = night-fits xs night in
    record {
      fits = fits;
      rows = λ r l. report-read (row_of xs) r l (fits r);
      agree = report-agree-of (row_of xs) (λ r l. fits r) (λ r l. row-agrees xs night.known r);
      told = report-told (row_of xs) (λ r l. fits r) ∙ runs-all xs night.known;
    }
