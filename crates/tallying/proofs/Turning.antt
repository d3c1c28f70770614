-- The loop over the runs: what the tables hold after i of them (`TalliedTo`), that one more may be counted (`run-asks`) and is (`turn_more`),
-- and where it ends: at a run that is not known (`place-stops`, `part-stops`) or behind the last (`all_done`). Assumes nothing.
use mathlib.Core.Path.{◌≡◌, refl, sym, ap, subst, ◌∙◌}
use mathlib.Core.Bool.{Bool, true, false}
use mathlib.Core.List.{List, [], ◌∷◌, ◌++◌}
use Prim.Native.Nat.{ℕ, zero, suc, ◌+◌, ◌*◌, ◌/◌, ◌<◌, ◌≤◌}
use native.Mathlib.Numerals.{add-one}
use native.Mathlib.Omega.{arith}
use lib.ListN.{length, get_or, take, drop, drop_of_length-le}
use lib.Seq.{take-suc, drop-cons, length-take-le}
use lib.Dec.{ltb}
use borrow.Author.Tests.{ltb-true, lt-ltb}
use Rattle.limits.specs.Limits.{runs_most, rules_most}
use Rattle.lists.specs.Tests.{pick, both}
use Rattle.lists.proofs.Listed.{listed-length, listed_at}
use Rattle.answers.specs.declared.Verdict.{Verdict}
use Rattle.answers.specs.declared.Verdict.TheVariants.{False, True, Pending}
use Rattle.answers.specs.Said.{verdict_number}
use Rattle.reports.specs.Runs.{Run, run_at, run_count, runs_in, is_known, known_front}
use Rattle.reports.specs.Report.{came_to}
use Rattle.reports.proofs.Those.{those-few}
use Rattle.tallying.specs.declared.RunTables.{RunTables}
use Rattle.tallying.specs.Tables.{count_at, TalliedRuns, CountAsk, RunCounted, Tallies}

-- the first i runs are known, and counted
pub record TalliedTo (s : List ℕ) (ts : RunTables) (i : ℕ) : Type 0 where
  pub short : i ≤ run_count s
  pub front : known_front (runs_in s) ≡ i + known_front (drop i (runs_in s))
  pub tables : TalliedRuns (take i (runs_in s)) ts

-- a verdict's number is that of a verdict
verdict-of : (v : ℕ) → v < 3 → (w : Verdict) × (verdict_number w ≡ v)
verdict-of zero h = (False, refl)
verdict-of (suc zero) h = (True, refl)
verdict-of (suc (suc zero)) h = (Pending, refl)
verdict-of (suc (suc (suc v))) h = absurd (omega arith)

-- a run whose numbers are not both few
not_known : (x : Run) → (x.rule < rules_most → x.verdict < 3 → ⊥) → is_known x ≡ false
unfolding is_known both
not_known x n = go (ltb x.rule rules_most) refl (ltb x.verdict 3) refl
  where
    go : (b : Bool) → ltb x.rule rules_most ≡ b → (d : Bool) → ltb x.verdict 3 ≡ d → both b d ≡ false
    go false e d f = refl
    go true e false f = refl
    go true e true f = absurd (n (ltb-true x.rule rules_most e) (ltb-true x.verdict 3 f))

module _ {s : List ℕ} {ts : RunTables} {i : ℕ} (t : TalliedTo s ts i) where
  -- ---- the next run
  module _ (inside : i < run_count s) where
    within : i < length (runs_in s)
    within = let l = listed-length (run_at s) (run_count s) in omega arith

    next : get_or (runs_in s) i (run_at s 0) ≡ run_at s i
    next = listed_at (run_at s 0) (run_at s) (run_count s) i inside

    ahead : drop i (runs_in s) ≡ run_at s i ∷ drop (suc i) (runs_in s)
    ahead = drop-cons (runs_in s) i (run_at s 0) within ∙ ap (λ (x : Run). x ∷ drop (suc i) (runs_in s)) next

    taken : take (suc i) (runs_in s) ≡ take i (runs_in s) ++ (run_at s i ∷ [])
    taken = take-suc (runs_in s) i (run_at s 0) within ∙ ap (λ (x : Run). take i (runs_in s) ++ (x ∷ [])) next

    long-taken : length (take i (runs_in s)) ≡ i
    long-taken = let w = within in length-take-le i (runs_in s) (omega arith)

    -- it is not known
    stops : is_known (run_at s i) ≡ false → Tallies s ts i
    unfolding known_front pick
    stops e =
        let z : known_front (drop i (runs_in s)) ≡ 0 = ap known_front ahead ∙ ap (λ (b : Bool). pick b (suc (known_front (drop (suc i) (runs_in s)))) 0) e in
        let f = t.front in
        record { front = omega arith; short = t.short; tables = t.tables }

    module _ {rule verdict : ℕ} (rule-is : rule ≡ (run_at s i).rule) (verdict-is : verdict ≡ (run_at s i).verdict) where
      -- its count has no place in the table, or one among those of another verdict
      pub place-stops : rules_most * 3 ≤ count_at verdict rule → Tallies s ts i
      place-stops h = stops (not_known (run_at s i) (λ few known. omega arith))

      pub part-stops : (count_at verdict rule / rules_most ≡ verdict → ⊥) → Tallies s ts i
      part-stops n = stops (not_known (run_at s i) (λ few known. n (omega arith)))

      -- it is known
      module _ (rule-few : rule < rules_most) (verdict-few : verdict < 3) where
        pub run-asks : run_count s ≤ runs_most → CountAsk rule verdict (count_at verdict rule) ts
        run-asks few =
            let (v, e) = verdict-of verdict verdict-few in
            let n = long-taken in
            let c = t.tables.counted v rule rule-few in
            let h = those-few (came_to rule v) (take i (runs_in s)) in
            let same : get_or ts.counts (count_at verdict rule) 0 ≡ get_or ts.counts (count_at (verdict_number v) rule) 0 = ap (λ (k : ℕ). get_or ts.counts (count_at k rule) 0) (sym e) in
            let m = t.tables.small rule rule-few in
            record { rule-few = rule-few; verdict-few = verdict-few; place_is = refl; few = omega arith; room = omega arith }

        known : is_known (run_at s i) ≡ true
        unfolding is_known both
        known = rw (lt-ltb (run_at s i).rule rules_most (omega arith), lt-ltb (run_at s i).verdict 3 (omega arith))

        pub turn_more : {tick : ℕ} → tick ≡ (run_at s i).tick → {ts' : RunTables} → RunCounted rule verdict tick ts ts' → TalliedTo s ts' (i + 1)
        unfolding known_front pick
        turn_more {tick} tick_is {ts'} more =
            let f = t.front in
            let z : known_front (drop i (runs_in s)) ≡ suc (known_front (drop (suc i) (runs_in s))) = ap known_front ahead ∙ ap (λ (b : Bool). pick b (suc (known_front (drop (suc i) (runs_in s)))) 0) known in
            let same : ◌≡◌ {A = Run} (record { rule = rule; verdict = verdict; tick = tick }) (run_at s i) = λ j. record { rule = rule-is j; verdict = verdict-is j; tick = tick_is j } in
            let held = subst (λ (x : Run). TalliedRuns (take i (runs_in s) ++ (x ∷ [])) ts') same (more (take i (runs_in s)) t.tables) in
            rw add-one (record {
              short = omega arith;
              front = omega arith;
              tables = subst (λ (l : List Run). TalliedRuns l ts') (sym taken) held;
            })

  -- ---- behind the last
  pub all_done : {n : ℕ} → n ≡ run_count s → n ≤ i → Tallies s ts n
  unfolding known_front
  all_done {n} e h =
      let short = t.short in
      let same : i ≡ n = omega arith in
      let l = listed-length (run_at s) (run_count s) in
      let f = t.front in
      let z : known_front (drop i (runs_in s)) ≡ 0 = ap known_front (drop_of_length-le (runs_in s) {i = i} (omega arith)) in
      record {
        front = omega arith;
        short = omega arith;
        tables = subst (λ (k : ℕ). TalliedRuns (take k (runs_in s)) ts) same t.tables;
      }
