-- There are single calls for every run of events, whatever the state and the other buffer are (`singly-exists`); of a state that passes its
-- check they come to what the run comes to (`run-singly`). Assumes nothing.
use Rattle.std.specs.Prelude.{Result, Ok, Err, ⊤}
use Rattle.answers.specs.declared.Refusal.{Refusal}
use mathlib.Core.Path.{◌≡◌, refl, subst}
use mathlib.Core.Bool.{Bool, true, false}
use mathlib.Core.List.{List, [], ◌∷◌}
use Prim.Native.Nat.{ℕ, zero, suc, ◌+◌}
use lib.ListN.{length}
use lib.Bits.{bit_and}
use Rattle.answers.specs.declared.Refusal.TheVariants.{Outside}
use Rattle.state.specs.Fields.{boards_in, slots_in, mask_in, masks_in}
use Rattle.state.specs.Clauses.{state_ok}
use Rattle.state.specs.Calls.{finished_in, sample_leaves, step_leaves, close_leaves}
use Rattle.taking.specs.Sample.{Samples}
use Rattle.settling.specs.Step.{StepsSlot}
use Rattle.course.specs.Course.{coursed}
use Rattle.demand.specs.Stopping.{covers}
use Rattle.demand.specs.Singly.{SampledSingly, no-board, sample-refused, sample-then, SteppedSingly, no_slot, step-refused, step_then, TickedSingly, outside, in-samples, in-steps, in-close, RunSingly, no-event, finished, tick-refused, tick-then}
use Rattle.demand.proofs.Allowed.{sample-allowed, step-allowed, close-outcome}
use Rattle.demand.proofs.Singly.{singly-coursed}

-- ---- the samples
abbrev SomeSamples : ℕ → ℕ → ℕ → List ℕ → Type 0
SomeSamples event n i s = (s' : List ℕ) × (answer : Result ⊤ Refusal) × SampledSingly event n i s s' answer

samples-exist : (event n i : ℕ) (s : List ℕ) → SomeSamples event n i s
samples-exist event zero i s = (s, (Ok tt), no-board)
samples-exist event (suc n) i s = let o = sample-allowed s i bits in go o.0 o.1 (samples-exist event n (i + 1) t)
  where
    bits : ℕ
    bits = bit_and event (mask_in s i)

    t : List ℕ
    t = sample_leaves s i (bit_and event (mask_in s i))

    go : (answer : Result ⊤ Refusal) → Samples s i (bit_and event (mask_in s i)) t answer → SomeSamples event n (i + 1) t → SomeSamples event (suc n) i s
    go (Ok _) x rest = (rest.0, rest.1, sample-then x rest.2)
    go (Err why) x rest = (t, Err why, sample-refused x)

-- ---- the steps
abbrev SomeSteps : ℕ → List ℕ → Type 0
SomeSteps k s = (s' : List ℕ) × (answer : Result ⊤ Refusal) × SteppedSingly k s s' answer

steps-exist : (k : ℕ) (s : List ℕ) → SomeSteps k s
steps-exist zero s = (s, (Ok tt), no_slot)
steps-exist (suc k) s = let o = step-allowed s k in go o.0 o.1 (steps-exist k (step_leaves s k))
  where
    go : (answer : Result ⊤ Refusal) → StepsSlot s k (step_leaves s k) answer → SomeSteps k (step_leaves s k) → SomeSteps (suc k) s
    go (Ok _) x rest = (rest.0, rest.1, step_then x rest.2)
    go (Err why) x rest = (step_leaves s k, Err why, step-refused x)

-- ---- a tick
abbrev SomeTick : ℕ → List ℕ → List ℕ → Type 0
SomeTick event s second = (s' second' : List ℕ) × (answer : Result ⊤ Refusal) × TickedSingly event s second s' second' answer

module _ (event : ℕ) (s second : List ℕ) where
  ticks-exist : SomeTick event s second
  ticks-exist = go (covers (masks_in s) event) refl
    where
      steps : covers (masks_in s) event ≡ true → (t : List ℕ) → SampledSingly event (boards_in s) 0 s t (Ok tt) → (s' : List ℕ) (answer : Result ⊤ Refusal) → SteppedSingly (slots_in s) t s' answer → SomeTick event s second
      steps inside t x s' (Ok _) y = let o = close-outcome s' (length second) in (s', close_leaves s' second, o.0, in-close inside x y (record { says = o.1; leaves = refl }))
      steps inside t x s' (Err why) y = (s', second, Err why, in-steps inside x y)

      samples : covers (masks_in s) event ≡ true → (t : List ℕ) (answer : Result ⊤ Refusal) → SampledSingly event (boards_in s) 0 s t answer → SomeTick event s second
      samples inside t (Ok _) x = let y = steps-exist (slots_in s) t in steps inside t x y.0 y.1 y.2
      samples inside t (Err why) x = (t, second, Err why, in-samples inside x)

      go : (b : Bool) → covers (masks_in s) event ≡ b → SomeTick event s second
      go true inside = let x = samples-exist event (boards_in s) 0 s in samples inside x.0 x.1 x.2
      go false out = (s, second, Err Outside, outside out)

-- ---- a run
abbrev pub SomeRun : List ℕ → List ℕ → List ℕ → Type 0
SomeRun s second events = (closed : ℕ) × (answer : Result ⊤ Refusal) × (last : List ℕ) × RunSingly s second events closed answer last

pub singly-exists : (events s second : List ℕ) → SomeRun s second events
singly-exists [] s second = (0, (Ok tt), s, no-event)
singly-exists (event ∷ events) s second = go (finished_in s) refl (λ t u. singly-exists events t u)
  where
    tick : finished_in s ≡ false → (s' second' : List ℕ) (answer : Result ⊤ Refusal) → TickedSingly event s second s' second' answer → ((t u : List ℕ) → SomeRun t u events) → SomeRun s second (event ∷ events)
    tick f s' second' (Ok _) x rest = let r = rest second' s' in (suc r.0, r.1, r.2, tick-then f x r.3)
    tick f s' second' (Err why) x rest = (0, Err why, s, tick-refused f x)

    go : (b : Bool) → finished_in s ≡ b → ((t u : List ℕ) → SomeRun t u events) → SomeRun s second (event ∷ events)
    go true f rest = (0, (Ok tt), s, finished f)
    go false f rest = let x = ticks-exist event s second in tick f x.0 x.1 x.2 x.3 rest

pub run-singly : (s second : List ℕ) → state_ok s ≡ true → length second ≡ length s → (events : List ℕ)
    → (answer : Result ⊤ Refusal) × RunSingly s second events (coursed s events).closed answer (coursed s events).leaves
run-singly s second ok long events =
    let r = singly-exists events s second in
    let e = singly-coursed ok long r.3 in (
      r.1,
      subst (λ (n : ℕ). RunSingly s second events n r.1 (coursed s events).leaves) e.0 (subst (λ (last : List ℕ). RunSingly s second events r.0 r.1 last) e.2 r.3),
    )
