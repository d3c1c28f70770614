-- No promise is empty: each check of a call refuses with a number of the table, so that whatever a call says is said by some outcome
-- (`sample-outcome`, `step-outcome`, `close-outcome`, `load-outcome`; for any list of checks `order-either`). And for every state and number
-- there is an outcome of a sample and of a step that its promise allows (`sample-allowed`, `step-allowed`). Assumes nothing.
use Rattle.std.specs.Prelude.{Result, Ok, Err, ⊤}
use mathlib.Core.Path.{◌≡◌, refl, sym, ap}
use mathlib.Core.Bool.{Bool, true, false}
use mathlib.Core.List.{List, [], ◌∷◌}
use mathlib.Core.Logic.{◌⊎◌, inl, inr, ⊎_elim}
use Prim.Native.Nat.{ℕ}
use Rattle.lists.specs.Tests.{pick}
use Rattle.answers.specs.declared.Refusal.{Refusal}
use Rattle.answers.specs.declared.Refusal.TheVariants.{Length, Version, Range, Offset, Masks, Formula, Slots, Nodes, State, Finished, Nowhere, Outside, Already, Unready, Ticks}
use Rattle.answers.specs.Said.{Said, accepted, refused, number_of, said_outcome, Check, in_order}
use Rattle.state.specs.Calls.{sample_says, sample_leaves, step_says, step_leaves, close_says}
use Rattle.loading.specs.Load.{load_says}
use Rattle.taking.specs.Sample.{Samples}
use Rattle.settling.specs.Step.{StepsSlot}

-- each check refuses with a number of the table
abbrev pub Named : List Check → Type 0
Named [] = Unit {0}
Named (c ∷ cs) = ((why : Refusal) × (c.number ≡ number_of why)) × Named cs

-- accepted with these values, or refused with a number of the table
abbrev pub Either : Said → List ℕ → Type 0
Either a vs = (a ≡ accepted vs) ⊎ ((why : Refusal) × (a ≡ refused (number_of why)))

pub order-either : (cs : List Check) → Named cs → (vs : List ℕ) → Either (in_order cs (accepted vs)) vs
unfolding in_order pick
order-either [] n vs = inl refl
order-either (c ∷ cs) n vs = go c.ok (order-either cs n.1 vs)
  where
    go : (b : Bool) → Either (in_order cs (accepted vs)) vs → Either (pick b (in_order cs (accepted vs)) (refused c.number)) vs
    go true r = r
    go false r = inr (n.0.0, ap refused n.0.1)

-- some outcome says it
abbrev pub SomeOutcome : Said → Type 0
SomeOutcome a = (answer : Result ⊤ Refusal) × (said_outcome answer ≡ a)

either-outcome : (a : Said) → Either a [] → SomeOutcome a
either-outcome a = ⊎_elim (λ e. ((Ok tt), sym e)) (λ r. (Err r.0, sym r.1))

pub sample-outcome : (s : List ℕ) (board bits : ℕ) → SomeOutcome (sample_says s board bits)
unfolding sample_says
sample-outcome s board bits = either-outcome _ (order-either _ ((State, refl), ((Finished, refl), ((Nowhere, refl), ((Outside, refl), ((Already, refl), tt))))) [])

pub step-outcome : (s : List ℕ) (slot : ℕ) → SomeOutcome (step_says s slot)
unfolding step_says
step-outcome s slot = either-outcome _ (order-either _ ((State, refl), ((Finished, refl), ((Nowhere, refl), ((Already, refl), ((Unready, refl), tt))))) [])

pub close-outcome : (s : List ℕ) (room : ℕ) → SomeOutcome (close_says s room)
unfolding close_says
close-outcome s room =
    either-outcome _ (order-either _ ((Length, refl), ((State, refl), ((Finished, refl), ((Unready, refl), ((Ticks, refl), ((Slots, refl), ((Nodes, refl), tt))))))) [])

pub load-outcome : (file : List ℕ) (room : ℕ) → SomeOutcome (load_says file room)
unfolding load_says
load-outcome file room =
    either-outcome _
    (order-either _ ((Length, refl), ((Version, refl), ((Range, refl), ((Offset, refl), ((Masks, refl), ((Formula, refl), ((Slots, refl), ((Nodes, refl), tt)))))))) [])

pub sample-allowed : (s : List ℕ) (board bits : ℕ) → (answer : Result ⊤ Refusal) × Samples s board bits (sample_leaves s board bits) answer
sample-allowed s board bits = let r = sample-outcome s board bits in (r.0, record { says = r.1; leaves = refl })

pub step-allowed : (s : List ℕ) (slot : ℕ) → (answer : Result ⊤ Refusal) × StepsSlot s slot (step_leaves s slot) answer
step-allowed s slot = let r = step-outcome s slot in (r.0, record { says = r.1; leaves = refl })
