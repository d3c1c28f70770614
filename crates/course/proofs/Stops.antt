-- How a run of events stops, from any state that passes its check: at its end, at a verdict or at an event whose tick is refused
-- (`coursed-stops`), with one of seven numbers (`only-these`), 13 at the first event alone (`thirteen-first`). What it leaves: a state
-- that passes, with the masks and the length of the first, and a tick for each closed event (`coursed-passes`, `coursed-masks`,
-- `coursed-length`, `coursed-ticks`). Assumes nothing.
use mathlib.Core.Path.{◌≡◌, refl, sym, ap, ◌∙◌}
use mathlib.Core.Bool.{true, false}
use mathlib.Core.List.{List, [], ◌∷◌}
use mathlib.Core.Logic.{◌⊎◌, inl, inr, ⊎_elim}
use Prim.Native.Nat.{ℕ, ◌+◌}
use native.Mathlib.Omega.{arith}
use lib.ListN.{length}
use Rattle.lists.specs.Tests.{either}
use Rattle.lists.proofs.Tests.{no_true}
use Rattle.answers.specs.Said.{Said}
use Rattle.state.specs.Fields.{ticks_in, masks_in}
use Rattle.state.specs.Clauses.{among, state_ok}
use Rattle.state.specs.Calls.{finished_in}
use Rattle.course.specs.Order.{none_sampled}
use Rattle.course.specs.Course.{Course, stopped, one_more, coursed}
use Rattle.course.specs.Stops.{Stops, at-end, at-verdict, at-refusal}
use Rattle.course.proofs.Numbers.{tick-these, tick-fresh}
use Rattle.course.proofs.Coursing.{Coursing, ends, finishes, refuses, closes, coursing}

-- ---- where it stops
-- one event more was closed before
stops-more : (events : List ℕ) (event : ℕ) (r : Course) → Stops events r → Stops (event ∷ events) (one_more r)
stops-more events event r (at-end n z f) = at-end (omega arith) z f
stops-more events event r (at-verdict h l z f) = at-verdict (omega arith) (omega arith) z f
stops-more events event r (at-refusal l q h f) = at-refusal (omega arith) q h f

-- the state was finished, or it stops as is said
stops-or : {s events : List ℕ} {r : Course} → Coursing s events r → ((finished_in s ≡ true) × (r ≡ stopped 0 s)) ⊎ Stops events r
stops-or (ends f) = inr (at-end refl refl f)
stops-or (finishes f) = inl (f, refl)
stops-or (refuses f q h) = inr (at-refusal (omega arith) q h f)
stops-or (closes {events = events} {event = event} {r = r} f c w) =
    inr
    (⊎_elim
    (λ p.
    (let n = ap (λ (x : Course). x.closed) p.1 in
    at-verdict (omega arith) (omega arith) (ap (λ (x : Course). x.refusal) p.1) (ap (λ (x : Course). finished_in x.leaves) p.1 ∙ p.0)))
    (λ x. stops-more events event r x) (stops-or w))

pub coursed-stops : (s : List ℕ) → state_ok s ≡ true → finished_in s ≡ false → (events : List ℕ) → Stops events (coursed s events)
coursed-stops s ok unfinished events = ⊎_elim (λ p. absurd (no_true (sym unfinished ∙ p.0))) (λ x. x) (stops-or (coursing s ok events))

-- ---- with which number
these : {s events : List ℕ} {r : Course} → Coursing s events r → among r.refusal (0 ∷ 12 ∷ 13 ∷ 9 ∷ 15 ∷ 7 ∷ 8 ∷ []) ≡ true
unfolding among either
these (ends f) = refl
these (finishes f) = refl
these (refuses {s = s} {event = event} f q h) = ap (λ (a : Said). among a.number (0 ∷ 12 ∷ 13 ∷ 9 ∷ 15 ∷ 7 ∷ 8 ∷ [])) q ∙ tick-these s event
these (closes f c w) = these w

pub only-these : (s : List ℕ) → state_ok s ≡ true → (events : List ℕ) → among (coursed s events).refusal (0 ∷ 12 ∷ 13 ∷ 9 ∷ 15 ∷ 7 ∷ 8 ∷ []) ≡ true
only-these s ok events = these (coursing s ok events)

-- where no board has sampled it is not 13, and none has in a state that was closed
not-thirteen : {s events : List ℕ} {r : Course} → Coursing s events r → none_sampled s ≡ true → r.refusal ≡ 13 → ⊥
not-thirteen (ends f) fresh e = omega arith
not-thirteen (finishes f) fresh e = omega arith
not-thirteen (refuses {s = s} {event = event} f q h) fresh e = tick-fresh s event fresh (sym (ap (λ (a : Said). a.number) q) ∙ e)
not-thirteen (closes f c w) fresh e = not-thirteen w c.fresh e

none-closed : {s events : List ℕ} {r : Course} → Coursing s events r → r.refusal ≡ 13 → r.closed ≡ 0
none-closed (ends f) e = refl
none-closed (finishes f) e = refl
none-closed (refuses f q h) e = refl
none-closed (closes f c w) e = absurd (not-thirteen w c.fresh e)

pub thirteen-first : (s : List ℕ) → state_ok s ≡ true → (events : List ℕ) → (coursed s events).refusal ≡ 13 → (coursed s events).closed ≡ 0
thirteen-first s ok events = none-closed (coursing s ok events)

-- ---- what it leaves
record LeftBy (s : List ℕ) (r : Course) : Type 0 where
  passes : state_ok r.leaves ≡ true
  masks : masks_in r.leaves ≡ masks_in s
  long : length r.leaves ≡ length s
  ticks : ticks_in r.leaves ≡ ticks_in s + r.closed

left-same : (s : List ℕ) (n : ℕ) → state_ok s ≡ true → LeftBy s (stopped n s)
left-same s n ok = record { passes = ok; masks = refl; long = refl; ticks = omega arith }

left_by : {s events : List ℕ} {r : Course} → Coursing s events r → state_ok s ≡ true → LeftBy s r
left_by {s} (ends f) ok = left-same s 0 ok
left_by {s} (finishes f) ok = left-same s 0 ok
left_by {s} (refuses {n = n} f q h) ok = left-same s n ok
left_by (closes f c w) ok =
    let x = left_by w c.passes in
    record { passes = x.passes; masks = x.masks ∙ c.masks; long = x.long ∙ c.long; ticks = (let a = x.ticks in let b = c.ticks in omega arith) }

module _ (s : List ℕ) (ok : state_ok s ≡ true) (events : List ℕ) where
  leaving : LeftBy s (coursed s events)
  leaving = left_by (coursing s ok events) ok

  pub coursed-passes : state_ok (coursed s events).leaves ≡ true
  coursed-passes = leaving.passes

  pub coursed-masks : masks_in (coursed s events).leaves ≡ masks_in s
  coursed-masks = leaving.masks

  pub coursed-length : length (coursed s events).leaves ≡ length s
  coursed-length = leaving.long

  pub coursed-ticks : ticks_in (coursed s events).leaves ≡ ticks_in s + (coursed s events).closed
  coursed-ticks = leaving.ticks
