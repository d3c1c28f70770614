-- The promise leaves no choice: `loads-determined` says that any two outcomes that it allows of the same inputs are equal.
-- Assumes nothing.
use Rattle.std.specs.Prelude.{Result, ⊤}
use Rattle.answers.specs.declared.Refusal.{Refusal}
use mathlib.Core.Path.{◌≡◌, sym, ◌∙◌}
use mathlib.Core.List.{List}
use Prim.Native.Nat.{ℕ}
use Rattle.answers.proofs.Answers.{said_outcome-injective}
use Rattle.loading.specs.Load.{LoadsRule}

pub loads-determined : (file state s t : List ℕ) (a b : Result ⊤ Refusal) → LoadsRule file state s a → LoadsRule file state t b → (a ≡ b) × (s ≡ t)
loads-determined file state s t a b x y = (said_outcome-injective a b (x.says ∙ sym y.says), x.leaves ∙ sym y.leaves)
