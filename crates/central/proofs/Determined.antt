-- The promise leaves no choice: `centrally-determined` says that any two outcomes that it allows of the same inputs are equal.
-- Assumes nothing.
use Rattle.std.specs.Prelude.{Result, Ok, Err}
use Rattle.answers.specs.declared.Refusal.{Refusal}
use Rattle.central.specs.declared.Progress.{Progress}
use mathlib.Core.Path.{◌≡◌, sym, ap, ◌∙◌}
use mathlib.Core.List.{List}
use Prim.Native.Nat.{ℕ}
use native.Mathlib.Omega.{arith}
use lib.ListN.{get_or}
use Rattle.answers.specs.Said.{Said}
use Rattle.answers.proofs.Answers.{number-injective, number-some, verdict-injective}
use Rattle.ltl.specs.Meaning.{Event}
use Rattle.central.specs.Central.{said_central, Centrally}

pub said_central-injective : (a b : Result Progress Refusal) → said_central a ≡ said_central b → a ≡ b
said_central-injective (Err v) (Err w) e = ap Err (number-injective v w (ap (λ (s : Said). s.number) e))
said_central-injective (Err v) (Ok p) e = let z = number-some v in let y = ap (λ (s : Said). s.number) e in absurd (omega arith)
said_central-injective (Ok p) (Err w) e = let z = number-some w in let y = ap (λ (s : Said). s.number) e in absurd (omega arith)
said_central-injective (Ok p) (Ok q) e =
    let v = verdict-injective p.verdict q.verdict (ap (λ (s : Said). get_or s.values 0 0) e) in
    let n : p.length ≡ q.length = ap (λ (s : Said). get_or s.values 1 0) e in
    λ i. Ok (record { verdict = v i; length = n i })

pub centrally-determined : (formula : List ℕ) (event : Event) (output o p : List ℕ) (a b : Result Progress Refusal)
    → Centrally formula event output o a → Centrally formula event output p b → (a ≡ b) × (o ≡ p)
centrally-determined formula event output o p a b x y =
    (said_central-injective a b (x.says ∙ sym y.says), x.leaves ∙ sym y.leaves)
