-- A run of events, turn by turn: at its end, at a verdict, at a refusal, or one closed event and the run behind it (`coursed-end` and its
-- like). For a state that passes its check these turns are a data type, `Coursing`, by which everything about a run goes (`coursing`).
-- Assumes nothing.
use mathlib.Core.Path.{◌≡◌, refl, sym, ap, ◌∙◌, subst}
use mathlib.Core.Bool.{Bool, true, false}
use mathlib.Core.List.{List, [], ◌∷◌}
use Prim.Native.Nat.{ℕ, ◌<◌}
use native.Mathlib.Decide.{ℕ_discrete}
use native.Mathlib.Omega.{arith}
use borrow.Author.Tests.{eq-eqb, ne_eqb}
use Rattle.lists.specs.Tests.{pick}
use Rattle.answers.specs.Said.{Said, refused}
use Rattle.state.specs.Clauses.{state_ok}
use Rattle.state.specs.Calls.{finished_in}
use Rattle.course.specs.Ticked.{tick_says, closed_to}
use Rattle.course.specs.Order.{tick_order}
use Rattle.course.specs.Course.{Course, stopped, one_more, coursed}
use Rattle.course.proofs.InOrder.{tick-in-order}
use Rattle.course.proofs.Closing.{ClosedTick, closed-tick}
use Rattle.course.proofs.Numbers.{tick-number}

-- ---- one turn
pub coursed-end : (s : List ℕ) → coursed s [] ≡ stopped 0 s
unfolding coursed
coursed-end s = refl

pub coursed-finished : (s events : List ℕ) → finished_in s ≡ true → coursed s events ≡ stopped 0 s
unfolding coursed pick
coursed-finished s [] e = refl
coursed-finished s (event ∷ events) e = rw e

module _ (s : List ℕ) (event : ℕ) (events : List ℕ) (unfinished : finished_in s ≡ false) where
  pub coursed-refused : 0 < (tick_says s event).number → coursed s (event ∷ events) ≡ stopped (tick_says s event).number s
  unfolding coursed pick
  coursed-refused h = rw (unfinished, ne_eqb (tick_says s event).number 0 (λ e. omega arith))

  pub coursed-more : (tick_says s event).number ≡ 0 → coursed s (event ∷ events) ≡ one_more (coursed (closed_to s event) events)
  unfolding coursed pick
  coursed-more e = rw (unfinished, eq-eqb (tick_says s event).number 0 e)

-- ---- all of them
pub data Coursing : List ℕ → List ℕ → Course → Type 0 where
  ends : {s : List ℕ} → finished_in s ≡ false → Coursing s [] (stopped 0 s)
  finishes : {s events : List ℕ} → finished_in s ≡ true → Coursing s events (stopped 0 s)
  refuses : {s events : List ℕ} {event n : ℕ} → finished_in s ≡ false → refused n ≡ tick_order s event → 0 < n → Coursing s (event ∷ events) (stopped n s)
  closes : {s events : List ℕ} {event : ℕ} {r : Course} → finished_in s ≡ false → ClosedTick s event → Coursing (closed_to s event) events r → Coursing s (event ∷ events) (one_more r)

pub coursing : (s : List ℕ) → state_ok s ≡ true → (events : List ℕ) → Coursing s events (coursed s events)
coursing s ok [] = go (finished_in s) refl
  where
    go : (b : Bool) → finished_in s ≡ b → Coursing s [] (coursed s [])
    go true e = subst (λ (r : Course). Coursing s [] r) (sym (coursed-end s)) (finishes e)
    go false e = subst (λ (r : Course). Coursing s [] r) (sym (coursed-end s)) (ends e)
coursing s ok (event ∷ events) = go (finished_in s) refl (λ u p. coursing u p events)
  where
    turn : finished_in s ≡ false → Dec ((tick_says s event).number ≡ 0) → ((u : List ℕ) → state_ok u ≡ true → Coursing u events (coursed u events)) → Coursing s (event ∷ events) (coursed s (event ∷ events))
    turn e (yes z) rest =
        let q = tick-in-order s ok e event in
        let says = q ∙ tick-number s event ∙ ap refused (sym (ap (λ (a : Said). a.number) q) ∙ z) in
        let c = closed-tick s ok e event says in
        subst (λ (r : Course). Coursing s (event ∷ events) r) (sym (coursed-more s event events e z)) (closes e c (rest (closed_to s event) c.passes))
    turn e (no z) rest =
        let q = tick-in-order s ok e event in
        subst (λ (r : Course). Coursing s (event ∷ events) r) (sym (coursed-refused s event events e (omega arith)))
        (refuses e (ap (λ (a : Said). refused a.number) q ∙ sym (tick-number s event)) (omega arith))

    go : (b : Bool) → finished_in s ≡ b → ((u : List ℕ) → state_ok u ≡ true → Coursing u events (coursed u events)) → Coursing s (event ∷ events) (coursed s (event ∷ events))
    go true e rest = subst (λ (r : Course). Coursing s (event ∷ events) r) (sym (coursed-finished s (event ∷ events) e)) (finishes e)
    go false e rest = turn e (ℕ_discrete (tick_says s event).number 0) rest
