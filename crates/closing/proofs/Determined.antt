-- The promise leaves no choice: `closes-determined` says that any two outcomes that it allows of the same inputs are equal. Assumes
-- nothing.
use Rattle.std.specs.Prelude.{Result, ⊤}
use Rattle.answers.specs.declared.Refusal.{Refusal}
use mathlib.Core.Path.{◌≡◌, sym, ◌∙◌}
use mathlib.Core.List.{List}
use Prim.Native.Nat.{ℕ}
use Rattle.answers.proofs.Answers.{said_outcome-injective}
use Rattle.closing.specs.Close.{Closes}

pub closes-determined : (state second s t : List ℕ) (a b : Result ⊤ Refusal) → Closes state second s a → Closes state second t b → (a ≡ b) × (s ≡ t)
closes-determined state second s t a b x y = (said_outcome-injective a b (x.says ∙ sym y.says), x.leaves ∙ sym y.leaves)
