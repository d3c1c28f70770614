-- The promise leaves no choice: equal numbers and values are equal answers (`said_mend-injective`), and both are those of `mend_says`
-- (`mends-determined`). Assumes nothing.
use Rattle.std.specs.Prelude.{Result, Ok, Err}
use Rattle.answers.specs.declared.Refusal.{Refusal}
use Rattle.recordings.specs.declared.Mended.{Mended}
use mathlib.Core.Path.{◌≡◌, sym, ap, ◌∙◌}
use mathlib.Core.List.{List}
use Prim.Native.Nat.{ℕ}
use native.Mathlib.Omega.{arith}
use lib.ListN.{get_or}
use Rattle.answers.specs.Said.{Said}
use Rattle.answers.proofs.Answers.{number-injective, number-some}
use Rattle.mending.specs.Mend.{said_mend, Mends}

pub said_mend-injective : (a b : Result Mended Refusal) → said_mend a ≡ said_mend b → a ≡ b
said_mend-injective (Err v) (Err w) e = ap Err (number-injective v w (ap (λ (s : Said). s.number) e))
said_mend-injective (Err v) (Ok m) e = let z = number-some v in let y = ap (λ (s : Said). s.number) e in absurd (omega arith)
said_mend-injective (Ok m) (Err w) e = let z = number-some w in let y = ap (λ (s : Said). s.number) e in absurd (omega arith)
said_mend-injective (Ok m) (Ok n) e =
    let k = ap (λ (s : Said). get_or s.values 0 0) e in
    let f = ap (λ (s : Said). get_or s.values 1 0) e in
    λ i. Ok (record { kept = k i; first = f i })

pub mends-determined : {recording mended marks e e₂ l l₂ : List ℕ} (a b : Result Mended Refusal) → Mends recording mended marks e l a → Mends recording mended marks e₂ l₂ b → (a ≡ b) × (e ≡ e₂) × (l ≡ l₂)
mends-determined a b x y = (said_mend-injective a b (x.says ∙ sym y.says), x.leaves ∙ sym y.leaves, x.leaves-marks ∙ sym y.leaves-marks)
