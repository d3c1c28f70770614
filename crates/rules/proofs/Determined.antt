-- The promises leave no choice: `reads-determined` and `writes-determined` say that any two outcomes that a promise allows of the
-- same inputs are equal. Assumes nothing.
use Rattle.std.specs.Prelude.{Result, Ok, Err}
use Rattle.answers.specs.declared.Refusal.{Refusal}
use Rattle.rules.specs.declared.RuleCounts.{RuleCounts}
use mathlib.Core.Path.{◌≡◌, sym, ap, ◌∙◌}
use mathlib.Core.List.{List}
use Prim.Native.Nat.{ℕ}
use native.Mathlib.Omega.{arith}
use lib.ListN.{get_or}
use Rattle.answers.specs.Said.{Said}
use Rattle.answers.proofs.Answers.{number-injective, number-some}
use Rattle.rules.specs.Read.{said_read, Reads}
use Rattle.rules.specs.Write.{said_write, Writes}

-- ---- an answer is known by its number and values
pub said_read-injective : (a b : Result RuleCounts Refusal) → said_read a ≡ said_read b → a ≡ b
said_read-injective (Err v) (Err w) e =
    ap Err (number-injective v w (ap (λ (s : Said). s.number) e))
said_read-injective (Err v) (Ok c) e =
    let z = number-some v in let y = ap (λ (s : Said). s.number) e in absurd (omega arith)
said_read-injective (Ok c) (Err w) e =
    let z = number-some w in let y = ap (λ (s : Said). s.number) e in absurd (omega arith)
said_read-injective (Ok c) (Ok d) e =
    let v = ap (λ (s : Said). s.values) e in
    let b : c.boards ≡ d.boards = ap (λ (l : List ℕ). get_or l 0 0) v in
    let p : c.propositions ≡ d.propositions = ap (λ (l : List ℕ). get_or l 1 0) v in
    let n : c.nodes ≡ d.nodes = ap (λ (l : List ℕ). get_or l 2 0) v in
    λ i. Ok (record { boards = b i; propositions = p i; nodes = n i })

pub said_write-injective : (a b : Result ℕ Refusal) → said_write a ≡ said_write b → a ≡ b
said_write-injective (Err v) (Err w) e =
    ap Err (number-injective v w (ap (λ (s : Said). s.number) e))
said_write-injective (Err v) (Ok n) e =
    let z = number-some v in let y = ap (λ (s : Said). s.number) e in absurd (omega arith)
said_write-injective (Ok m) (Err w) e =
    let z = number-some w in let y = ap (λ (s : Said). s.number) e in absurd (omega arith)
said_write-injective (Ok m) (Ok n) e =
    ap Ok (ap (λ (s : Said). get_or s.values 0 0) e)

-- ---- the calls
pub reads-determined : (file masks formula m f m' f' : List ℕ) (a b : Result RuleCounts Refusal) → Reads file masks formula m f a → Reads file masks formula m' f' b
    → (a ≡ b) × (m ≡ m') × (f ≡ f')
reads-determined file masks formula m f m' f' a b x y =
    (said_read-injective a b (x.says ∙ sym y.says), x.leaves-masks ∙ sym y.leaves-masks, x.leaves-formula ∙ sym y.leaves-formula)

pub writes-determined : (masks : List ℕ) (p : ℕ) (formula file g h : List ℕ) (a b : Result ℕ Refusal) → Writes masks p formula file g a → Writes masks p formula file h b
    → (a ≡ b) × (g ≡ h)
writes-determined masks p formula file g h a b x y = (said_write-injective a b (x.says ∙ sym y.says), x.leaves ∙ sym y.leaves)
