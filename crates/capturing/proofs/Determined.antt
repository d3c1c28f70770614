-- The promise leaves no choice: `captures-determined` says that any two outcomes that it allows of the same inputs are equal. Assumes
-- nothing.
use Rattle.std.specs.Prelude.{Result, Ok, Err, ⊤}
use Rattle.answers.specs.declared.Refusal.{Refusal}
use mathlib.Core.Path.{◌≡◌, refl, sym, ap, ◌∙◌}
use mathlib.Core.List.{List}
use Prim.Native.Nat.{ℕ}
use native.Mathlib.Omega.{arith}
use lib.ListN.{get_or}
use Rattle.answers.specs.Said.{Said, said_outcome}
use Rattle.answers.proofs.Answers.{number-some, number-injective, verdict-injective}
use Rattle.capturing.specs.declared.Captured.{Captured}
use Rattle.capturing.specs.Capture.{values_of, said_capture, Captures}

-- the outcomes of one number are the same
pub outcome-injective : (a b : Result ⊤ Refusal) → (said_outcome a).number ≡ (said_outcome b).number → a ≡ b
outcome-injective (Err x) (Err y) e = ap Err (number-injective x y e)
outcome-injective (Err x) (Ok _) e = let z = number-some x in absurd (omega arith)
outcome-injective (Ok _) (Err y) e = let z = number-some y in absurd (omega arith)
outcome-injective (Ok _) (Ok _) e = refl

captured-injective : (a b : Captured) → values_of a ≡ values_of b → a ≡ b
captured-injective a b e =
    let x : a.closed ≡ b.closed = ap (λ (l : List ℕ). get_or l 0 0) e in
    let y = verdict-injective a.verdict b.verdict (ap (λ (l : List ℕ). get_or l 1 0) e) in
    let z = outcome-injective a.stop b.stop (ap (λ (l : List ℕ). get_or l 2 0) e) in
    λ i. record { closed = x i; verdict = y i; stop = z i }

answer-injective : (a b : Result Captured Refusal) → said_capture a ≡ said_capture b → a ≡ b
answer-injective (Err x) (Err y) e = ap Err (number-injective x y (ap (λ (s : Said). s.number) e))
answer-injective (Err x) (Ok c) e = let z = number-some x in let n = ap (λ (s : Said). s.number) e in absurd (omega arith)
answer-injective (Ok c) (Err y) e = let z = number-some y in let n = ap (λ (s : Said). s.number) e in absurd (omega arith)
answer-injective (Ok c) (Ok d) e = ap Ok (captured-injective c d (ap (λ (s : Said). s.values) e))

pub captures-determined : (state second events s t u v : List ℕ) (a b : Result Captured Refusal) → Captures state second events s u a → Captures state second events t v b → (a ≡ b) × (s ≡ t) × (u ≡ v)
captures-determined state second events s t u v a b x y =
    (answer-injective a b (x.says ∙ sym y.says), x.leaves ∙ sym y.leaves, x.leaves-second ∙ sym y.leaves-second)
