-- The promise leaves no choice: `prints-determined` says that any two outcomes that it allows of the same inputs are equal.
-- Assumes nothing.
use Rattle.std.specs.Prelude.{Result, Ok, Err}
use Rattle.answers.specs.declared.Refusal.{Refusal}
use mathlib.Core.Path.{◌≡◌, sym, ap, ◌∙◌}
use mathlib.Core.List.{List}
use Prim.Native.Nat.{ℕ}
use native.Mathlib.Omega.{arith}
use lib.ListN.{get_or}
use Rattle.answers.specs.Said.{Said}
use Rattle.answers.proofs.Answers.{number-injective, number-some}
use Rattle.printing.specs.Print.{said_print, Prints}

-- an answer is known by its number and values
pub said_print-injective : (a b : Result ℕ Refusal) → said_print a ≡ said_print b → a ≡ b
said_print-injective (Err v) (Err w) e = ap Err (number-injective v w (ap (λ (s : Said). s.number) e))
said_print-injective (Err v) (Ok n) e = let z = number-some v in let y = ap (λ (s : Said). s.number) e in absurd (omega arith)
said_print-injective (Ok m) (Err w) e = let z = number-some w in let y = ap (λ (s : Said). s.number) e in absurd (omega arith)
said_print-injective (Ok m) (Ok n) e = ap Ok (ap (λ (s : Said). get_or s.values 0 0) e)

pub prints-determined : (formula text t u : List ℕ) (a b : Result ℕ Refusal) → Prints formula text t a → Prints formula text u b → (a ≡ b) × (t ≡ u)
prints-determined formula text t u a b x y = (said_print-injective a b (x.says ∙ sym y.says), x.leaves ∙ sym y.leaves)
