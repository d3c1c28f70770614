-- The promise leaves no choice: `steps-determined` says that any two outcomes that it allows of the same inputs are equal. Assumes
-- nothing.
use Rattle.std.specs.Prelude.{Result, ⊤}
use Rattle.answers.specs.declared.Refusal.{Refusal}
use mathlib.Core.Path.{◌≡◌, sym, ◌∙◌}
use mathlib.Core.List.{List}
use Prim.Native.Nat.{ℕ}
use Rattle.answers.proofs.Answers.{said_outcome-injective}
use Rattle.settling.specs.Step.{StepsSlot}

pub steps-determined : (state : List ℕ) (slot : ℕ) (s t : List ℕ) (a b : Result ⊤ Refusal)
    → StepsSlot state slot s a → StepsSlot state slot t b → (a ≡ b) × (s ≡ t)
steps-determined state slot s t a b x y = (said_outcome-injective a b (x.says ∙ sym y.says), x.leaves ∙ sym y.leaves)
