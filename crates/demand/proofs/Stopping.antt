-- A run of events from a watch's state stops, where there was no verdict before, at its end, at a verdict, or with 12, 15, 7 or 8: neither
-- 13 nor 9 comes, and 12 is of an event that the masks do not cover (`watched-stops`). Assumes nothing.
use mathlib.Core.Path.{◌≡◌, refl, sym, ap, ◌∙◌}
use mathlib.Core.Bool.{Bool, true, false}
use mathlib.Core.List.{List, [], ◌∷◌, ◌++◌}
use Prim.Native.Nat.{ℕ, ◌<◌}
use native.Mathlib.Omega.{arith}
use lib.ListN.{length, take, get_or}
use Rattle.lists.specs.Tests.{pick, either}
use Rattle.lists.proofs.Tests.{no_true}
use Rattle.answers.specs.Said.{Said, accepted, refused, check, in_order}
use Rattle.answers.specs.declared.Verdict.TheVariants.{Pending}
use Rattle.answers.proofs.Answers.{order-refused}
use Rattle.ltl.specs.Meaning.{Event}
use Rattle.rules.specs.RuleFile.{propositions_in_file, masks_in_file}
use Rattle.state.specs.Clauses.{among}
use Rattle.state.specs.Calls.{finished_in}
use Rattle.loading.specs.Load.{start_in}
use Rattle.course.specs.Course.{coursed}
use Rattle.course.specs.Stops.{Stops, at-end, at-verdict, at-refusal}
use Rattle.course.proofs.Stops.{coursed-stops}
use Rattle.watching.proofs.Ticked.{watch-started}
use Rattle.watching.proofs.Asking.{pending-unfinished}
use Rattle.watching.proofs.Demand.{watch-verdict, watch-finished}
use Rattle.demand.specs.Called.{Watched}
use Rattle.demand.specs.Claims.{standing}
use Rattle.demand.specs.Stopping.{covers, watch_order, WatchStops}
use Rattle.demand.proofs.Watches.{watched}
use Rattle.demand.proofs.Ticking.{order-watched}
use Rattle.demand.proofs.Coursed.{coursed-watched, coursed-inside}

-- ---- the numbers of a watch's tick
four : (a b c d : Bool) → among (in_order (check 12 a ∷ check 15 b ∷ check 7 c ∷ check 8 d ∷ []) (accepted [])).number (0 ∷ 12 ∷ 15 ∷ 7 ∷ 8 ∷ []) ≡ true
unfolding in_order pick among either
four false b c d = refl
four true false c d = refl
four true true false d = refl
four true true true false = refl
four true true true true = refl

twelve : (a b c d : Bool) → (in_order (check 12 a ∷ check 15 b ∷ check 7 c ∷ check 8 d ∷ []) (accepted [])).number ≡ 12 → a ≡ false
unfolding in_order pick
twelve false b c d e = refl
twelve true false c d e = absurd (omega arith)
twelve true true false d e = absurd (omega arith)
twelve true true true false e = absurd (omega arith)
twelve true true true true e = absurd (omega arith)

module _ (masks s : List ℕ) (e : Event) where
  order-these : among (watch_order masks s e).number (0 ∷ 12 ∷ 15 ∷ 7 ∷ 8 ∷ []) ≡ true
  unfolding watch_order
  order-these = four _ _ _ _

  order-outside : (watch_order masks s e).number ≡ 12 → covers masks e ≡ false
  unfolding watch_order
  order-outside q = twelve _ _ _ _ q

  outside-order : covers masks e ≡ false → watch_order masks s e ≡ refused 12
  unfolding watch_order
  outside-order out = order-refused 12 _ _ _ out

-- ---- the run
module _ {file : List ℕ} {us : List Event} {s : List ℕ} (w : Watched file us s) (pending : (standing file us s).verdict ≡ Pending) (events : List Event) where
  abbrev masks : List ℕ
  masks = masks_in_file file

  abbrev at : ℕ
  at = (coursed s events).closed

  abbrev n : ℕ
  n = (coursed s events).refusal

  abbrev last : List ℕ
  last = (coursed s events).leaves

  -- the event at which it stops
  abbrev e : Event
  e = get_or events at 0

  stops : Stops events (coursed s events)
  stops =
      coursed-stops s (watch-started (propositions_in_file file) masks (start_in file) (watched w)).passes
      (pending-unfinished s (watch-verdict (propositions_in_file file) masks (start_in file) us s (watched w) ∙ pending)) events

  -- the refusal is that of a watch's tick
  by_order : refused n ≡ watch_order masks last e → n ≡ (watch_order masks last e).number
  by_order q = ap (λ (a : Said). a.number) q

  record Numbers : Type 0 where
    these : among n (0 ∷ 12 ∷ 15 ∷ 7 ∷ 8 ∷ []) ≡ true
    when-outside : n ≡ 12 → covers masks e ≡ false
    outside : at < length events → finished_in last ≡ false → covers masks e ≡ false → n ≡ 12

  none : n ≡ 0 → among n (0 ∷ 12 ∷ 15 ∷ 7 ∷ 8 ∷ []) ≡ true
  unfolding among either
  none z = rw z

  numbers : Numbers
  numbers = go stops
    where
      go : Stops events (coursed s events) → Numbers
      go (at-end l z f) = record { these = none z; when-outside = λ q. absurd (omega arith); outside = λ h g o. absurd (omega arith) }
      go (at-verdict h l z f) = record { these = none z; when-outside = λ q. absurd (omega arith); outside = λ i g o. absurd (no_true (sym g ∙ f)) }
      go (at-refusal l q h f) =
          let o = by_order (q ∙ order-watched file (us ++ take at events) last (coursed-watched w events) e) in
          record {
            these = ap (λ (m : ℕ). among m (0 ∷ 12 ∷ 15 ∷ 7 ∷ 8 ∷ [])) o ∙ order-these masks last e;
            when-outside = λ z. order-outside masks last e (sym o ∙ z);
            outside = λ i g out. o ∙ ap (λ (a : Said). a.number) (outside-order masks last e out);
          }

  pub watched-stops : WatchStops file us events (coursed s events)
  watched-stops =
      record {
        stops = stops;
        number = numbers.these;
        inside = coursed-inside w events;
        when-outside = numbers.when-outside;
        outside = numbers.outside;
        verdict = watch-finished (propositions_in_file file) masks (start_in file) (us ++ take at events) last (watched (coursed-watched w events));
      }
