-- Runs that can be counted. `is_known` holds of those that are `Known` (`known_is`, `known_of`), and `known_front` is the length of a list
-- exactly where every run is (`front-is`, `front_of`). Of such a list each row's runs are those of its three verdicts (`runs-verdicts`),
-- and the runs of all rows are the list's (`runs-all`): both are counts of tests, run by run, and of one run one of the three verdicts'
-- tests holds, and one of the rules' tests. Assumes nothing.
use mathlib.Core.Path.{◌≡◌, refl, ap, ap₂, ◌∙◌}
use mathlib.Core.Bool.{Bool, true, false}
use mathlib.Core.List.{List, [], ◌∷◌}
use Prim.Native.Nat.{ℕ, zero, suc, ◌+◌, ◌<◌}
use native.Mathlib.Nat.{suc_inj}
use native.Mathlib.Omega.{arith}
use lib.ListN.{length}
use lib.Dec.{eqb}
use borrow.Author.Tests.{ltb-true, lt-ltb}
use Rattle.limits.specs.Limits.{rules_most}
use Rattle.lists.specs.Tests.{pick, both}
use Rattle.lists.proofs.Tests.{both-0, both-1, both_true}
use Rattle.answers.specs.declared.Verdict.TheVariants.{False, True, Pending}
use Rattle.reports.specs.Runs.{Run, is_known, known_front}
use Rattle.reports.specs.Report.{those, is_of, came_to, row_of}
use Rattle.reports.specs.Rows.{sum_below}
use Rattle.reports.specs.Nights.{Each, Known, AllKnown}
use Rattle.reports.proofs.Sums.{one_if, sum_same, sum-zero, sum-two, sum_one}
use Rattle.reports.proofs.Each.{each_more}
use Rattle.reports.proofs.Those.{those-none, those-count}

-- ---- the tests
pub known_is : (x : Run) → is_known x ≡ true → Known x
unfolding is_known
known_is x e = record { rule = ltb-true x.rule rules_most (both-0 _ _ e); verdict = ltb-true x.verdict 3 (both-1 _ _ e) }

pub known_of : (x : Run) → Known x → is_known x ≡ true
unfolding is_known
known_of x k = both_true _ _ (lt-ltb x.rule rules_most k.rule) (lt-ltb x.verdict 3 k.verdict)

pub front-is : (xs : List Run) → known_front xs ≡ length xs → AllKnown xs
unfolding known_front pick
front-is [] e = tt
front-is (x ∷ xs) e = go (is_known x) refl (front-is xs) e
  where
    go : (b : Bool) → is_known x ≡ b → (known_front xs ≡ length xs → AllKnown xs) → pick b (suc (known_front xs)) 0 ≡ suc (length xs) → AllKnown (x ∷ xs)
    go true h rest e = (known_is x h, rest (suc_inj e))
    go false h rest e = absurd (omega arith)

pub front_of : (xs : List Run) → AllKnown xs → known_front xs ≡ length xs
unfolding known_front pick
front_of [] k = refl
front_of (x ∷ xs) k = rw (known_of x k.0) (ap suc (front_of xs k.1))

-- ---- the verdicts of a row
-- a run with the number of a verdict has one of the three
one-verdict : (b : Bool) (v : ℕ) → v < 3 → one_if b ≡ one_if (both b (eqb v 0)) + one_if (both b (eqb v 1)) + one_if (both b (eqb v 2))
unfolding one_if both
one-verdict false v l = refl
one-verdict true zero l = refl
one-verdict true (suc zero) l = refl
one-verdict true (suc (suc zero)) l = refl
one-verdict true (suc (suc (suc v))) l = absurd (omega arith)

verdicts-count : (r : ℕ) (xs : List Run) → AllKnown xs
    → length (those (is_of r) xs) ≡ length (those (came_to r False) xs) + length (those (came_to r True) xs) + length (those (came_to r Pending) xs)
verdicts-count r [] k = omega (arith, those-none (is_of r), those-none (came_to r False), those-none (came_to r True), those-none (came_to r Pending))
verdicts-count r (x ∷ xs) k =
    let e = one-verdict (is_of r x) x.verdict k.0.verdict in
    let c = verdicts-count r xs k.1 in
    omega (arith, those-count (is_of r) x xs, those-count (came_to r False) x xs, those-count (came_to r True) x xs, those-count (came_to r Pending) x xs)

pub runs-verdicts : (xs : List Run) → AllKnown xs → (r : ℕ) → (row_of xs r).runs ≡ (row_of xs r).falses + (row_of xs r).trues + (row_of xs r).pendings
unfolding row_of
runs-verdicts xs k r = verdicts-count r xs k

-- ---- the rows of all rules
rules-count : (n : ℕ) (xs : List Run) → Each (λ x. x.rule < n) xs → sum_below (λ r. length (those (is_of r) xs)) n ≡ length xs
rules-count n [] k = sum_same _ _ n (λ r l. those-none (is_of r)) ∙ sum-zero n
rules-count n (x ∷ xs) k =
    sum_same _ _ n (λ r l. those-count (is_of r) x xs)
    ∙ sum-two _ _ n
    ∙ ap₂ ◌+◌ (sum_one x.rule n k.0) (rules-count n xs k.1)
    ∙ omega arith

pub runs-all : (xs : List Run) → AllKnown xs → sum_below (λ r. (row_of xs r).runs) rules_most ≡ length xs
unfolding row_of
runs-all xs k = rules-count rules_most xs (each_more Known (λ x. x.rule < rules_most) (λ x h. h.rule) xs k)
