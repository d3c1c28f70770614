-- A run counted into the tables: `counted-as`. A table keeps every number but the run's own (`moved-elim`). That goes on by one operation,
-- with the run's tick where it was false and else with a number that changes nothing; so earliest, latest and sum are one law
-- (`figure-more`). Assumes nothing.
use mathlib.Core.Path.{◌≡◌, refl, sym, ap, subst, ◌∙◌}
use mathlib.Core.List.{List, [], ◌∷◌, ◌++◌}
use Prim.Native.Nat.{ℕ, ◌+◌, ◌*◌, ◌<◌, ◌≤◌, min, max}
use native.Mathlib.Decide.{ℕ_discrete}
use native.Mathlib.Omega.{arith}
use lib.ListN.{length, get_or, set, length-append}
use lib.Seq.{get_or-set_same, get_or-set_other}
use lib.Dec.{eqb}
use borrow.Author.Tests.{eq-eqb, ne_eqb}
use Rattle.limits.specs.Limits.{rules_most}
use Rattle.lists.specs.Tests.{pick}
use Rattle.lists.proofs.Tests.{pick-elim}
use Rattle.answers.specs.declared.Verdict.{Verdict}
use Rattle.answers.specs.Said.{verdict_number}
use Rattle.reports.specs.Runs.{Run}
use Rattle.reports.specs.Report.{those, came_to, ticks_of, chosen, summed}
use Rattle.reports.proofs.Those.{those-hit, those-miss}
use Rattle.reports.proofs.Figures.{Assoc, min_assoc, max_assoc, chosen-both, summed-both, of-first, of_some}
use Rattle.tallying.specs.declared.RunTables.{RunTables}
use Rattle.tallying.specs.Tables.{highest_tick, count_at, chosen_from, TalliedRuns}
use Rattle.tallying.proofs.Runs.{came-hit, came-miss, ticks-hit, ticks-miss}

-- a table with another number at k: what holds of the new one where j is k, and else of what stood at j, holds of what stands at j
moved-elim : (P : ℕ → Type 0) (l : List ℕ) (k j a : ℕ) → k < length l → (j ≡ k → P a) → ((j ≡ k → ⊥) → P (get_or l j 0)) → P (get_or (set l k a) j 0)
moved-elim P l k j a h same other = go (ℕ_discrete j k)
  where
    go : Dec (j ≡ k) → P (get_or (set l k a) j 0)
    go (yes e) = subst P (sym (ap (λ (i : ℕ). get_or (set l k a) i 0) e ∙ get_or-set_same l k a 0 h)) (same e)
    go (no n) = subst P (sym (get_or-set_other l k j a 0 n)) (other n)

-- how many runs of a rule came to a verdict, with one run more
module _ (xs : List Run) (x : Run) (v : Verdict) (r : ℕ) where
  count-hit : x.rule ≡ r → x.verdict ≡ verdict_number v → length (those (came_to r v) (xs ++ (x ∷ []))) ≡ length (those (came_to r v) xs) + 1
  count-hit e f = ap length (those-hit (came_to r v) xs x (came-hit x v r e f)) ∙ length-append (those (came_to r v) xs) (x ∷ [])

  count-miss : (x.rule ≡ r → x.verdict ≡ verdict_number v → ⊥) → length (those (came_to r v) (xs ++ (x ∷ []))) ≡ length (those (came_to r v) xs)
  count-miss n = ap length (those-miss (came_to r v) xs x (came-miss x v r n))

-- what is chosen of some ticks and one more; u is less than any of them to the operation
chosen_more : (op : ℕ → ℕ → ℕ) → Assoc op → (u : ℕ) (ts : List ℕ) (t : ℕ) → op u t ≡ t → chosen_from op u (ts ++ (t ∷ [])) ≡ op (chosen_from op u ts) t
unfolding chosen_from chosen pick
chosen_more op assoc u [] t e = of-first op 0 t 0 ∙ sym e
chosen_more op assoc u (x ∷ ts) t e =
    let n = length-append (x ∷ ts) (t ∷ []) in
    rw (ne_eqb (length (x ∷ ts ++ (t ∷ []))) 0 (λ z. omega arith), ne_eqb (length (x ∷ ts)) 0 (λ z. omega arith))
    (chosen-both op assoc (x ∷ ts) (t ∷ []) ∙ of_some op (length ts) (chosen op (x ∷ ts)) 0 (chosen op (t ∷ [])) ∙ ap (op (chosen op (x ∷ ts))) (of-first op 0 t 0))

-- the lengths of the tables, which their type has
pub record Long (t : RunTables) : Type 0 where
  pub counts : length t.counts ≡ rules_most * 3
  pub earliest : length t.earliest ≡ rules_most
  pub latest : length t.latest ≡ rules_most
  pub sums : length t.sums ≡ rules_most

module _ {xs : List Run} {t : RunTables} (long : Long t) (held : TalliedRuns xs t)
    {rule verdict : ℕ} (tick : ℕ) (rule-few : rule < rules_most) (verdict-few : verdict < 3) where
  abbrev x : Run
  x = record { rule = rule; verdict = verdict; tick = tick }

  abbrev at : ℕ
  at = count_at verdict rule

  counts-more : (v : Verdict) (r : ℕ) → r < rules_most
      → get_or (set t.counts at (get_or t.counts at 0 + 1)) (count_at (verdict_number v) r) 0 ≡ length (those (came_to r v) (xs ++ (x ∷ [])))
  counts-more v r h =
      let b = long.counts in
      moved-elim (λ (n : ℕ). n ≡ length (those (came_to r v) (xs ++ (x ∷ [])))) t.counts at (count_at (verdict_number v) r) (get_or t.counts at 0 + 1) (omega arith)
      (λ e. let f : verdict ≡ verdict_number v = omega arith in let g : rule ≡ r = omega arith in
      ap (λ (i : ℕ). get_or t.counts i 0 + 1) (sym e) ∙ ap (λ (n : ℕ). n + 1) (held.counted v r h) ∙ sym (count-hit xs x v r g f))
      (λ n. held.counted v r h ∙ sym (count-miss xs x v r (λ e f. n (omega arith))))

  -- a table with a figure of each rule's ticks: it goes on by f, which a tick of false changes and nothing else
  module _ (figure : List ℕ → ℕ) (f : ℕ → ℕ → ℕ) (u : ℕ)
      (hit : (ts : List ℕ) → figure (ts ++ (tick ∷ [])) ≡ f (figure ts) tick)
      (table : List ℕ) (table-long : length table ≡ rules_most) (is : (r : ℕ) → r < rules_most → get_or table r 0 ≡ figure (ticks_of r xs))
      (miss : f (get_or table rule 0) u ≡ get_or table rule 0) where
    own : (b : Dec (verdict ≡ 0)) → f (get_or table rule 0) (pick (eqb verdict 0) tick u) ≡ figure (ticks_of rule (xs ++ (x ∷ [])))
    unfolding pick
    own (yes e) =
        rw (eq-eqb verdict 0 e) (ap (λ (g : ℕ). f g tick) (is rule rule-few) ∙ sym (hit (ticks_of rule xs)) ∙ ap figure (sym (ticks-hit xs x rule refl e)))
    own (no n) = rw (ne_eqb verdict 0 n) (miss ∙ is rule rule-few ∙ ap figure (sym (ticks-miss xs x rule (λ e g. n g))))

    pub figure-more : (r : ℕ) → r < rules_most → get_or (set table rule (f (get_or table rule 0) (pick (eqb verdict 0) tick u))) r 0 ≡ figure (ticks_of r (xs ++ (x ∷ [])))
    figure-more r h =
        moved-elim (λ (n : ℕ). n ≡ figure (ticks_of r (xs ++ (x ∷ [])))) table rule r (f (get_or table rule 0) (pick (eqb verdict 0) tick u)) (omega arith)
        (λ e. own (ℕ_discrete verdict 0) ∙ ap (λ (k : ℕ). figure (ticks_of k (xs ++ (x ∷ [])))) (sym e))
        (λ n. is r h ∙ sym (ap figure (ticks-miss xs x r (λ e g. n (sym e)))))

  -- the new number of each table, with the tick of a run that was false, and else with one that changes nothing
  abbrev lows : List ℕ
  lows = set t.earliest rule (min (get_or t.earliest rule 0) (pick (eqb verdict 0) tick highest_tick))

  abbrev highs : List ℕ
  highs = set t.latest rule (max (get_or t.latest rule 0) (pick (eqb verdict 0) tick 0))

  abbrev totals : List ℕ
  totals = set t.sums rule (get_or t.sums rule 0 + pick (eqb verdict 0) tick 0)

  run-counted : get_or t.earliest rule 0 ≤ highest_tick → tick ≤ highest_tick
      → TalliedRuns (xs ++ (x ∷ [])) (record { counts = set t.counts at (get_or t.counts at 0 + 1); earliest = lows; latest = highs; sums = totals })
  unfolding summed
  run-counted low small =
      let more = length-append xs (x ∷ []) in
      let added : pick (eqb verdict 0) tick 0 ≤ highest_tick = pick-elim (λ (n : ℕ). n ≤ highest_tick) (eqb verdict 0) tick 0 (λ e. small) (λ e. omega arith) in
      record {
        counted = counts-more;
        first = figure-more (chosen_from min highest_tick) min highest_tick (λ ts. chosen_more min min_assoc highest_tick ts tick (omega arith)) t.earliest long.earliest held.first (omega arith);
        last = figure-more (chosen_from max 0) max 0 (λ ts. chosen_more max max_assoc 0 ts tick (omega arith)) t.latest long.latest held.last (omega arith);
        total = figure-more summed ◌+◌ 0 (λ ts. let s = summed-both ts (tick ∷ []) in omega arith) t.sums long.sums held.total (omega arith);
        small = λ r h.
            moved-elim (λ (n : ℕ). n ≤ highest_tick * length (xs ++ (x ∷ []))) t.sums rule r (get_or t.sums rule 0 + pick (eqb verdict 0) tick 0) (let l = long.sums in omega arith)
            (λ q. let k = held.small rule rule-few in omega arith) (λ n. let k = held.small r h in omega arith);
      }

  -- with the numbers that the code has worked out
  pub counted-as : {place : ℕ} → place ≡ at → get_or t.earliest rule 0 ≤ highest_tick → tick ≤ highest_tick → {low high a b c : ℕ} → low ≡ pick (eqb verdict 0) tick highest_tick → high ≡ pick (eqb verdict 0) tick 0
      → a ≡ min (get_or t.earliest rule 0) low → b ≡ max (get_or t.latest rule 0) high → c ≡ high
      → TalliedRuns (xs ++ (x ∷ []))
      (record { counts = set t.counts place (get_or t.counts place 0 + 1); earliest = set t.earliest rule a; latest = set t.latest rule b; sums = set t.sums rule (get_or t.sums rule 0 + c) })
  counted-as {place} here l small {low} {high} {a} {b} {c} lo hi e f g =
      let p : a ≡ min (get_or t.earliest rule 0) (pick (eqb verdict 0) tick highest_tick) = e ∙ ap (min (get_or t.earliest rule 0)) lo in
      let q : b ≡ max (get_or t.latest rule 0) (pick (eqb verdict 0) tick 0) = f ∙ ap (max (get_or t.latest rule 0)) hi in
      let r : c ≡ pick (eqb verdict 0) tick 0 = g ∙ hi in
      let same : ◌≡◌ {A = RunTables} (record { counts = set t.counts at (get_or t.counts at 0 + 1); earliest = lows; latest = highs; sums = totals })
      (record { counts = set t.counts place (get_or t.counts place 0 + 1); earliest = set t.earliest rule a; latest = set t.latest rule b; sums = set t.sums rule (get_or t.sums rule 0 + c) }) =
      λ i. record {
        counts = set t.counts (sym here i) (get_or t.counts (sym here i) 0 + 1);
        earliest = set t.earliest rule (sym p i);
        latest = set t.latest rule (sym q i);
        sums = set t.sums rule (get_or t.sums rule 0 + sym r i);
      } in
      subst (TalliedRuns (xs ++ (x ∷ []))) same (run-counted l small)
