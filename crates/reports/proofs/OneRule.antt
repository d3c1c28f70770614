-- Runs of one rule that have a given row (`runs_for`), where the numbers of the row agree: as many pending ones and true ones as it says, at tick
-- 0, and the false ones at `ticks_for`. The row is that of the three parts added (`row-for`); of another rule it is empty (`row-elsewhere`). Each
-- of the runs can be counted (`runs-for-known`), and has a tick of 32 bits where the row's latest has (`runs-for-short`). Assumes nothing.
use mathlib.Core.Path.{◌≡◌, refl, sym, ap, ap₂, ◌∙◌}
use mathlib.Core.Bool.{true}
use mathlib.Core.List.{List, [], ◌∷◌, ◌++◌, map}
use Prim.Native.Nat.{ℕ, zero, suc, ◌+◌, ◌^◌, ◌<◌, min, max}
use native.Mathlib.Omega.{arith}
use lib.ListN.{length, length-map}
use lib.Dec.{eqb}
use borrow.Author.Tests.{eq-eqb}
use Rattle.limits.specs.Limits.{rules_most}
use Rattle.lists.proofs.Tests.{pick-ap}
use Rattle.lists.specs.Tests.{pick, both}
use Rattle.lists.specs.Listed.{listed}
use Rattle.lists.proofs.Listed.{listed-length}
use Rattle.answers.specs.declared.Verdict.{Verdict}
use Rattle.answers.specs.declared.Verdict.TheVariants.{False, True, Pending}
use Rattle.answers.specs.Said.{verdict_number}
use Rattle.reports.specs.declared.Row.{Row}
use Rattle.reports.specs.Runs.{Run}
use Rattle.reports.specs.Report.{those, is_of, came_to, ticks_of, chosen, summed, row_of, added}
use Rattle.reports.specs.Rows.{empty_row}
use Rattle.reports.specs.Nights.{Each, Known, AllKnown, Short}
use Rattle.reports.proofs.Those.{those-map}
use Rattle.reports.proofs.Each.{each_all, each_more, each_map, each_both, each-listed}
use Rattle.reports.proofs.Figures.{of_none}
use Rattle.reports.proofs.Adding.{report-both, row-without}
use Rattle.reports.proofs.Spans.{CanSpan}
use Rattle.reports.proofs.Filled.{ticks_for, Between, TicksSpan, ticks-for}
use Rattle.reports.proofs.Agrees.{Agrees, Tickless}

-- ---- runs of one rule and one verdict
-- a run by its numbers
abbrev pub run_of : ℕ → ℕ → ℕ → Run
run_of r v t = record { rule = r; verdict = v; tick = t }

-- the runs of rule r that came to verdict v at these ticks
abbrev pub outcomes : ℕ → ℕ → List ℕ → List Run
outcomes r v ts = map (run_of r v) ts

-- their row
abbrev outcome_row : ℕ → List ℕ → Row
outcome_row v ts =
    record {
      runs = length ts;
      falses = pick (eqb v 0) (length ts) 0;
      trues = pick (eqb v 1) (length ts) 0;
      pendings = pick (eqb v 2) (length ts) 0;
      earliest = chosen min (pick (eqb v 0) ts []);
      latest = chosen max (pick (eqb v 0) ts []);
      sum = summed (pick (eqb v 0) ts []);
    }

ticks-back : (r v : ℕ) (ts : List ℕ) → map (λ x. x.tick) (map (run_of r v) ts) ≡ ts
ticks-back r v [] = refl
ticks-back r v (t ∷ ts) = ap (t ∷◌) (ticks-back r v ts)

module _ (r v : ℕ) (ts : List ℕ) where
  came : (u : Verdict) → those (came_to r u) (outcomes r v ts) ≡ pick (eqb v (verdict_number u)) (outcomes r v ts) []
  unfolding both
  came u = those-map (came_to r u) (run_of r v) (eqb v (verdict_number u)) (λ t. rw (eq-eqb r r refl)) ts

  came-count : (u : Verdict) → length (those (came_to r u) (outcomes r v ts)) ≡ pick (eqb v (verdict_number u)) (length ts) 0
  came-count u =
      ap length (came u)
      ∙ pick-ap length (eqb v (verdict_number u)) (outcomes r v ts) []
      ∙ ap (λ (n : ℕ). pick (eqb v (verdict_number u)) n 0) (length-map ts (run_of r v))

  came-ticks : ticks_of r (outcomes r v ts) ≡ pick (eqb v 0) ts []
  came-ticks =
      ap (map (λ (x : Run). x.tick)) (came False)
      ∙ pick-ap (map (λ (x : Run). x.tick)) (eqb v 0) (outcomes r v ts) []
      ∙ ap (λ (us : List ℕ). pick (eqb v 0) us []) (ticks-back r v ts)

  row-outcomes : row_of (outcomes r v ts) r ≡ outcome_row v ts
  unfolding row_of pick
  row-outcomes =
      let all = ap length (those-map (is_of r) (run_of r v) true (λ t. eq-eqb r r refl) ts) ∙ length-map ts (run_of r v) in
      let lows = ap (chosen min) came-ticks in
      let highs = ap (chosen max) came-ticks in
      let sums = ap summed came-ticks in
      λ i.
      record {
        runs = all i;
        falses = came-count False i;
        trues = came-count True i;
        pendings = came-count Pending i;
        earliest = lows i;
        latest = highs i;
        sum = sums i;
      }

-- ---- runs of one rule with a given row
-- the ticks of the runs that were false
abbrev pub false_ticks : Row → List ℕ
false_ticks w = ticks_for w.falses w.earliest w.latest w.sum

-- n ticks of which a row says nothing
abbrev pub any_ticks : ℕ → List ℕ
any_ticks n = listed (λ k. 0) n

any-length : (n : ℕ) → length (any_ticks n) ≡ n
any-length n = listed-length _ n

-- the pending ones, the true ones, and those that were false
unfoldable pub runs_for : ℕ → Row → List Run
runs_for r w = outcomes r 2 (any_ticks w.pendings) ++ (outcomes r 1 (any_ticks w.trues) ++ outcomes r 0 (false_ticks w))

-- where its numbers agree the ticks have the numbers that it says
false-ticks : (n e l s : ℕ) → (n ≡ 0 → Tickless e l s) → (0 < n → CanSpan n e l s) → TicksSpan (ticks_for n e l s) n e l s
unfolding ticks_for chosen summed
false-ticks zero e l s h k =
    let z = h refl in
    record { count = refl; least = sym z.earliest; greatest = sym z.latest; sum = sym z.sum; between = tt }
false-ticks (suc n) e l s h k = ticks-for n e l s (k (omega arith))

pub row-for : (r : ℕ) (w : Row) → Agrees w → row_of (runs_for r w) r ≡ w
unfolding runs_for added pick summed
row-for r w a =
    let ps = any_ticks w.pendings in
    let us = any_ticks w.trues in
    let ts = false_ticks w in
    let p = any-length w.pendings in
    let u = any-length w.trues in
    let has = false-ticks w.falses w.earliest w.latest w.sum a.without a.with-some in
    let runs : length ps + (length us + length ts) ≡ w.runs = omega (arith, a.runs, has.count) in
    let falses : 0 + (0 + length ts) ≡ w.falses = omega (arith, has.count) in
    let trues : 0 + (length us + 0) ≡ w.trues = omega arith in
    let pendings : length ps + (0 + 0) ≡ w.pendings = omega arith in
    let sum : 0 + (0 + summed ts) ≡ w.sum = omega (arith, has.sum) in
    let least = of_none min _ _ _ ∙ of_none min _ _ _ ∙ has.least in
    let greatest = of_none max _ _ _ ∙ of_none max _ _ _ ∙ has.greatest in
    report-both (outcomes r 2 ps) (outcomes r 1 us ++ outcomes r 0 ts) r
    ∙ ap₂ added (row-outcomes r 2 ps) (report-both (outcomes r 1 us) (outcomes r 0 ts) r ∙ ap₂ added (row-outcomes r 1 us) (row-outcomes r 0 ts))
    ∙ (λ i. record { runs = runs i; falses = falses i; trues = trues i; pendings = pendings i; earliest = least i; latest = greatest i; sum = sum i })

-- what holds of a run of the rule, where some property of its tick holds
runs-for-each : (P : Run → Type 0) (Q : ℕ → Type 0) (r : ℕ) (w : Row) → ((v t : ℕ) → v < 3 → Q t → P (run_of r v t)) → Q 0 → Each Q (false_ticks w)
    → Each P (runs_for r w)
unfolding runs_for
runs-for-each P Q r w h none falses =
    let ps = any_ticks w.pendings in
    let us = any_ticks w.trues in
    let ts = false_ticks w in
    each_both P (outcomes r 2 ps) (outcomes r 1 us ++ outcomes r 0 ts) (part 2 (omega arith) ps (any w.pendings))
    (each_both P (outcomes r 1 us) (outcomes r 0 ts) (part 1 (omega arith) us (any w.trues)) (part 0 (omega arith) ts falses))
  where
    any : (n : ℕ) → Each Q (any_ticks n)
    any n = each-listed Q (λ k. 0) n (λ k l. none)

    part : (v : ℕ) → v < 3 → (ts : List ℕ) → Each Q ts → Each P (outcomes r v ts)
    part v l ts a = each_map P (run_of r v) ts (each_more Q (λ t. P (run_of r v t)) (λ t q. h v t l q) ts a)

-- where it does not matter which tick
runs-for-all : (P : Run → Type 0) (r : ℕ) (w : Row) → ((v t : ℕ) → v < 3 → P (run_of r v t)) → Each P (runs_for r w)
runs-for-all P r w h = runs-for-each P (λ t. Unit {0}) r w (λ v t l u. h v t l) tt (each_all (λ t. Unit {0}) (λ t. tt) (false_ticks w))

-- their rule is this one, and so no other has a row
pub row-elsewhere : (r : ℕ) (w : Row) (q : ℕ) → (r ≡ q → ⊥) → row_of (runs_for r w) q ≡ empty_row
row-elsewhere r w q h = row-without (runs_for r w) q (runs-for-all (λ x. x.rule ≡ q → ⊥) r w (λ v t l. h))

pub runs-for-known : (r : ℕ) (w : Row) → r < rules_most → AllKnown (runs_for r w)
runs-for-known r w h = runs-for-all Known r w (λ v t l. record { rule = h; verdict = l })

-- no tick is later than the row's latest one
pub runs-for-short : (r : ℕ) (w : Row) → Agrees w → w.latest < 2 ^ 32 → Each Short (runs_for r w)
runs-for-short r w a h =
    let has = false-ticks w.falses w.earliest w.latest w.sum a.without a.with-some in
    runs-for-each Short (λ t. t < 2 ^ 32) r w (λ v t l k. k) (omega arith)
    (each_more (Between w.earliest w.latest) (λ t. t < 2 ^ 32) (λ t b. omega arith) (false_ticks w) has.between)
