-- The promise leaves no choice: equal numbers and values are equal answers (`said_stretch-injective`), and both are those of `stretch_says`
-- (`stretches-determined`). Assumes nothing.
use Rattle.std.specs.Prelude.{Result, Ok, Err}
use Rattle.answers.specs.declared.Refusal.{Refusal}
use mathlib.Core.Path.{◌≡◌, sym, ap, ◌∙◌}
use mathlib.Core.List.{List}
use Prim.Native.Nat.{ℕ}
use native.Mathlib.Omega.{arith}
use lib.ListN.{get_or}
use Rattle.answers.specs.Said.{Said}
use Rattle.answers.proofs.Answers.{number-injective, number-some}
use Rattle.stretching.specs.Stretch.{said_stretch, Stretches}

pub said_stretch-injective : (a b : Result ℕ Refusal) → said_stretch a ≡ said_stretch b → a ≡ b
said_stretch-injective (Err v) (Err w) e = ap Err (number-injective v w (ap (λ (s : Said). s.number) e))
said_stretch-injective (Err v) (Ok n) e = let z = number-some v in let y = ap (λ (s : Said). s.number) e in absurd (omega arith)
said_stretch-injective (Ok n) (Err w) e = let z = number-some w in let y = ap (λ (s : Said). s.number) e in absurd (omega arith)
said_stretch-injective (Ok n) (Ok m) e = ap Ok (ap (λ (s : Said). get_or s.values 0 0) e)

pub stretches-determined : {recording events e e₂ : List ℕ} (a b : Result ℕ Refusal) → Stretches recording events e a → Stretches recording events e₂ b → (a ≡ b) × (e ≡ e₂)
stretches-determined a b x y = (said_stretch-injective a b (x.says ∙ sym y.says), x.leaves ∙ sym y.leaves)
