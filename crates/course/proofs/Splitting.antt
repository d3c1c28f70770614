-- Splitting the events over two runs gives the same as one run of them all: `coursed-split`. It holds of any state, also of one that is
-- finished or fails its check. Assumes nothing.
use mathlib.Core.Path.{◌≡◌, refl, sym, ap, ◌∙◌}
use mathlib.Core.Bool.{Bool, true, false, not}
use mathlib.Core.List.{List, [], ◌∷◌, ◌++◌}
use Prim.Native.Nat.{ℕ, ◌<◌}
use native.Mathlib.Nat.{zero-add, suc-add}
use native.Mathlib.Decide.{ℕ_discrete}
use native.Mathlib.Omega.{arith}
use lib.Dec.{eqb}
use borrow.Author.Tests.{ne_eqb}
use Rattle.lists.specs.Tests.{pick, both}
use Rattle.state.specs.Calls.{finished_in}
use Rattle.course.specs.Ticked.{tick_says, closed_to}
use Rattle.course.specs.Course.{Course, stopped, one_more, coursed}
use Rattle.course.specs.Resumed.{resumed}
use Rattle.course.proofs.Coursing.{coursed-end, coursed-finished, coursed-refused, coursed-more}

-- ---- going on
resumed-refused : (n : ℕ) (s events : List ℕ) → 0 < n → resumed (stopped n s) events ≡ stopped n s
unfolding resumed pick both
resumed-refused n s events h = rw (ne_eqb n 0 (λ e. omega arith))

resumed-finished : (s events : List ℕ) → finished_in s ≡ true → resumed (stopped 0 s) events ≡ stopped 0 s
unfolding resumed pick both
resumed-finished s events e = rw e

resumed-none : (s events : List ℕ) → finished_in s ≡ false → resumed (stopped 0 s) events ≡ coursed s events
unfolding resumed pick both
resumed-none s events e = rw (e, zero-add)

resumed-more : (r : Course) (events : List ℕ) → resumed (one_more r) events ≡ one_more (resumed r events)
unfolding resumed pick
resumed-more r events = go (both (eqb r.refusal 0) (not (finished_in r.leaves))) refl
  where
    go : (b : Bool) → both (eqb r.refusal 0) (not (finished_in r.leaves)) ≡ b → resumed (one_more r) events ≡ one_more (resumed r events)
    go true e = rw (e, suc-add)
    go false e = rw e

-- ---- the split
-- no events before
split-none : (s ys : List ℕ) → coursed s ys ≡ resumed (stopped 0 s) ys
split-none s ys = go (finished_in s) refl
  where
    go : (b : Bool) → finished_in s ≡ b → coursed s ys ≡ resumed (stopped 0 s) ys
    go true e = coursed-finished s ys e ∙ sym (resumed-finished s ys e)
    go false e = sym (resumed-none s ys e)

pub coursed-split : (s : List ℕ) → (xs ys : List ℕ) → coursed s (xs ++ ys) ≡ resumed (coursed s xs) ys
coursed-split s [] ys = split-none s ys ∙ ap (λ (r : Course). resumed r ys) (sym (coursed-end s))
coursed-split s (event ∷ xs) ys = go (finished_in s) refl (coursed-split (closed_to s event) xs ys)
  where
    turn : finished_in s ≡ false → Dec ((tick_says s event).number ≡ 0) → coursed (closed_to s event) (xs ++ ys) ≡ resumed (coursed (closed_to s event) xs) ys
        → coursed s (event ∷ (xs ++ ys)) ≡ resumed (coursed s (event ∷ xs)) ys
    turn f (yes z) rest =
        coursed-more s event (xs ++ ys) f z ∙ ap one_more rest ∙ sym (resumed-more (coursed (closed_to s event) xs) ys) ∙ ap (λ (r : Course). resumed r ys) (sym (coursed-more s event xs f z))
    turn f (no z) rest =
        let h : 0 < (tick_says s event).number = omega arith in
        coursed-refused s event (xs ++ ys) f h ∙ sym (resumed-refused (tick_says s event).number s ys h) ∙ ap (λ (r : Course). resumed r ys) (sym (coursed-refused s event xs f h))

    go : (b : Bool) → finished_in s ≡ b → coursed (closed_to s event) (xs ++ ys) ≡ resumed (coursed (closed_to s event) xs) ys → coursed s (event ∷ (xs ++ ys)) ≡ resumed (coursed s (event ∷ xs)) ys
    go true f rest = coursed-finished s (event ∷ (xs ++ ys)) f ∙ sym (resumed-finished s ys f) ∙ ap (λ (r : Course). resumed r ys) (sym (coursed-finished s (event ∷ xs) f))
    go false f rest = turn f (ℕ_discrete (tick_says s event).number 0) rest
