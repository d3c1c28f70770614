-- The report of two lists of runs together is their two reports added (`report-both`): each field of a row is a length or a figure of the
-- runs for which a test holds, these are those of the first list and then those of the second (`those-both`), and lengths add up, as
-- `Figures.antt` says of figures. So two reports determine that of both (`reports-determine`). Every number of the row of no
-- runs is 0 (`row-none`), and of a rule without a run (`row-without`); such a row adds nothing (`added_none`, `added-to-none`). Assumes nothing.
use mathlib.Core.Path.{◌≡◌, refl, sym, ap, ap₂, ◌∙◌}
use mathlib.Core.Bool.{Bool, false}
use mathlib.Core.List.{List, [], ◌++◌, map, map-append, append-nil}
use Prim.Native.Nat.{ℕ, ◌+◌, min, max}
use lib.ListN.{length, length-append, length-map}
use borrow.Author.Tests.{ne_eqb}
use Rattle.lists.specs.Tests.{both}
use Rattle.lists.proofs.Stretches.{none-long}
use Rattle.answers.specs.declared.Verdict.{Verdict}
use Rattle.answers.specs.declared.Verdict.TheVariants.{False, True, Pending}
use Rattle.reports.specs.declared.Row.{Row}
use Rattle.reports.specs.Runs.{Run}
use Rattle.reports.specs.Report.{those, is_of, came_to, ticks_of, of_both, chosen, summed, row_of, added}
use Rattle.reports.specs.Rows.{empty_row}
use Rattle.reports.specs.Nights.{Each}
use Rattle.reports.proofs.Those.{those-both, those-no}
use Rattle.reports.proofs.Each.{each_more}
use Rattle.reports.proofs.Figures.{Assoc, chosen-both, summed-both, min_assoc, max_assoc}

-- ---- of two lists together
-- how many runs a test holds for
count-both : (p : Run → Bool) (xs ys : List Run) → length (those p (xs ++ ys)) ≡ length (those p xs) + length (those p ys)
count-both p xs ys = ap length (those-both p xs ys) ∙ length-append (those p xs) (those p ys)

-- the ticks at which a rule was false
ticks-both : (r : ℕ) (xs ys : List Run) → ticks_of r (xs ++ ys) ≡ ticks_of r xs ++ ticks_of r ys
ticks-both r xs ys = ap (map (λ (x : Run). x.tick)) (those-both (came_to r False) xs ys) ∙ map-append _ (those (came_to r False) xs) (those (came_to r False) ys)

-- there are as many as runs that were false
pub ticks-length : (r : ℕ) (xs : List Run) → length (ticks_of r xs) ≡ length (those (came_to r False) xs)
ticks-length r xs = length-map (those (came_to r False) xs) _

pub ticks-none : (r : ℕ) (xs : List Run) → length (those (came_to r False) xs) ≡ 0 → ticks_of r xs ≡ []
ticks-none r xs e = none-long (ticks_of r xs) (ticks-length r xs ∙ e)

-- what an operation picks of them
ticks-chosen : (op : ℕ → ℕ → ℕ) → Assoc op → (r : ℕ) (xs ys : List Run)
    → chosen op (ticks_of r (xs ++ ys)) ≡ of_both op (length (those (came_to r False) xs)) (chosen op (ticks_of r xs)) (length (those (came_to r False) ys)) (chosen op (ticks_of r ys))
ticks-chosen op assoc r xs ys =
    ap (chosen op) (ticks-both r xs ys)
    ∙ chosen-both op assoc (ticks_of r xs) (ticks_of r ys)
    ∙ ap₂ (λ (m n : ℕ). of_both op m (chosen op (ticks_of r xs)) n (chosen op (ticks_of r ys))) (ticks-length r xs) (ticks-length r ys)

-- the row of a rule
pub report-both : (xs ys : List Run) (r : ℕ) → row_of (xs ++ ys) r ≡ added (row_of xs r) (row_of ys r)
unfolding row_of added
report-both xs ys r =
    let lows = ticks-chosen min min_assoc r xs ys in
    let highs = ticks-chosen max max_assoc r xs ys in
    let sums = ap summed (ticks-both r xs ys) ∙ summed-both (ticks_of r xs) (ticks_of r ys) in
    λ i.
    record {
      runs = count-both (is_of r) xs ys i;
      falses = count-both (came_to r False) xs ys i;
      trues = count-both (came_to r True) xs ys i;
      pendings = count-both (came_to r Pending) xs ys i;
      earliest = lows i;
      latest = highs i;
      sum = sums i;
    }

pub reports-determine : (xs xs' ys ys' : List Run) → ((r : ℕ) → row_of xs r ≡ row_of xs' r) → ((r : ℕ) → row_of ys r ≡ row_of ys' r)
    → (r : ℕ) → row_of (xs ++ ys) r ≡ row_of (xs' ++ ys') r
reports-determine xs xs' ys ys' e f r = report-both xs ys r ∙ ap₂ added (e r) (f r) ∙ sym (report-both xs' ys' r)

-- ---- no runs
pub row-none : (r : ℕ) → row_of [] r ≡ empty_row
unfolding row_of those chosen summed
row-none r = refl

-- a rule of which no run is
pub row-without : (xs : List Run) (r : ℕ) → Each (λ x. x.rule ≡ r → ⊥) xs → row_of xs r ≡ empty_row
unfolding row_of chosen summed both
row-without xs r h =
    let none = those-no (is_of r) xs (each_more (λ x. x.rule ≡ r → ⊥) (λ x. is_of r x ≡ false) (λ x n. ne_eqb x.rule r n) xs h) in
    λ i.
    record {
      runs = length (none i);
      falses = length (came False i);
      trues = length (came True i);
      pendings = length (came Pending i);
      earliest = chosen min (map (λ (x : Run). x.tick) (came False i));
      latest = chosen max (map (λ (x : Run). x.tick) (came False i));
      sum = summed (map (λ (x : Run). x.tick) (came False i));
    }
  where
    came : (v : Verdict) → those (came_to r v) xs ≡ []
    came v = those-no (came_to r v) xs (each_more (λ x. x.rule ≡ r → ⊥) (λ x. came_to r v x ≡ false) (λ x n. rw (ne_eqb x.rule r n)) xs h)

pub added-to-none : (xs : List Run) (r : ℕ) → added empty_row (row_of xs r) ≡ row_of xs r
added-to-none xs r = ap (λ (w : Row). added w (row_of xs r)) (sym (row-none r)) ∙ sym (report-both [] xs r)

pub added_none : (xs : List Run) (r : ℕ) → added (row_of xs r) empty_row ≡ row_of xs r
added_none xs r = ap (added (row_of xs r)) (sym (row-none r)) ∙ sym (report-both xs [] r) ∙ ap (λ (ys : List Run). row_of ys r) (append-nil xs)
