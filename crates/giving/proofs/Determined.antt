-- The promise leaves no choice: `comes-determined` says that any two outcomes that it allows of the same inputs are equal. Assumes
-- nothing.
use Rattle.std.specs.Prelude.{Result, ⊤}
use Rattle.answers.specs.declared.Refusal.{Refusal}
use mathlib.Core.Path.{◌≡◌, sym, ◌∙◌}
use mathlib.Core.List.{List}
use Prim.Native.Nat.{ℕ}
use Rattle.answers.proofs.Answers.{said_outcome-injective}
use Rattle.course.specs.Given.{After}
use Rattle.giving.specs.Give.{Comes}

pub comes-determined : (a : After) (s t : List ℕ) (x y : Result ⊤ Refusal) → Comes a s x → Comes a t y → (x ≡ y) × (s ≡ t)
comes-determined a s t x y p q = (said_outcome-injective x y (p.says ∙ sym q.says), p.leaves ∙ sym q.leaves)
