-- The promise leaves no choice: `adds-determined`. Assumes nothing.
use Rattle.std.specs.Prelude.{Result, ⊤}
use Rattle.answers.specs.declared.Refusal.{Refusal}
use mathlib.Core.Path.{◌≡◌, sym, ◌∙◌}
use mathlib.Core.List.{List}
use Prim.Native.Nat.{ℕ}
use Rattle.answers.proofs.Answers.{said_outcome-injective}
use Rattle.adding.specs.Add.{AddsReport}

pub adds-determined : {total night e e₂ : List ℕ} (a b : Result ⊤ Refusal) → AddsReport total night e a → AddsReport total night e₂ b → (a ≡ b) × (e ≡ e₂)
adds-determined a b x y = (said_outcome-injective a b (x.says ∙ sym y.says), x.leaves ∙ sym y.leaves)
