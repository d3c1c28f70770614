-- The promise leaves no choice: `samples-determined` says that any two outcomes that it allows of the same inputs are equal. Assumes
-- nothing.
use Rattle.std.specs.Prelude.{Result, ⊤}
use Rattle.answers.specs.declared.Refusal.{Refusal}
use mathlib.Core.Path.{◌≡◌, sym, ◌∙◌}
use mathlib.Core.List.{List}
use Prim.Native.Nat.{ℕ}
use Rattle.answers.proofs.Answers.{said_outcome-injective}
use Rattle.taking.specs.Sample.{Samples}

pub samples-determined : (state : List ℕ) (board bits : ℕ) (s t : List ℕ) (a b : Result ⊤ Refusal)
    → Samples state board bits s a → Samples state board bits t b → (a ≡ b) × (s ≡ t)
samples-determined state board bits s t a b x y = (said_outcome-injective a b (x.says ∙ sym y.says), x.leaves ∙ sym y.leaves)
