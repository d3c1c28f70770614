-- The promise leaves no choice of the answer and of the state: `ticks-determined`. Assumes nothing.
use Rattle.std.specs.Prelude.{Result, ⊤}
use Rattle.answers.specs.declared.Refusal.{Refusal}
use mathlib.Core.Path.{◌≡◌, sym, ◌∙◌}
use mathlib.Core.List.{List}
use Prim.Native.Nat.{ℕ}
use Rattle.answers.proofs.Answers.{said_outcome-injective}
use Rattle.state.specs.declared.Counts.{Counts}
use Rattle.ticking.specs.Tick.{TicksOnce}

pub ticks-determined : (state : List ℕ) (c : Counts) (event : ℕ) (s t u v : List ℕ) (a b : Result ⊤ Refusal) → TicksOnce state c event s u a → TicksOnce state c event t v b → (a ≡ b) × (s ≡ t)
ticks-determined state c event s t u v a b x y = (said_outcome-injective a b (x.says ∙ sym y.says), x.leaves ∙ sym y.leaves)
