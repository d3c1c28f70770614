-- The promise leaves no choice: equal numbers and values are equal answers (`said_report-injective`), and both are those of `report_says`
-- (`reports-determined`). Assumes nothing.
use Rattle.answers.specs.declared.Refusal.{Refusal}
use Rattle.std.specs.Prelude.{Result, Ok, Err, ⊤}
use mathlib.Core.Path.{◌≡◌, refl, sym, ap, ◌∙◌}
use mathlib.Core.List.{List}
use Prim.Native.Nat.{ℕ}
use native.Mathlib.Omega.{arith}
use lib.ListN.{length, get_or}
use Rattle.answers.specs.Said.{Said}
use Rattle.answers.proofs.Answers.{number-injective, number-some}
use Rattle.reporting.specs.declared.ReportError.{ReportError}
use Rattle.reporting.specs.declared.ReportError.TheVariants.{Refused, NoRun}
use Rattle.reporting.specs.Report.{said_report, Reports}

pub said_report-injective : (a b : Result ⊤ ReportError) → said_report a ≡ said_report b → a ≡ b
said_report-injective (Err (Refused v)) (Err (Refused w)) e = ap (λ (x : Refusal). Err (Refused x)) (number-injective v w (ap (λ (s : Said). s.number) e))
said_report-injective (Err (Refused v)) (Err (NoRun k)) e = let y = ap (λ (s : Said). length s.values) e in absurd (omega arith)
said_report-injective (Err (Refused v)) (Ok _) e = let z = number-some v in let y = ap (λ (s : Said). s.number) e in absurd (omega arith)
said_report-injective (Err (NoRun k)) (Err (Refused w)) e = let y = ap (λ (s : Said). length s.values) e in absurd (omega arith)
said_report-injective (Err (NoRun k)) (Err (NoRun m)) e = ap (λ (k : ℕ). Err (NoRun k)) (ap (λ (s : Said). get_or s.values 0 0) e)
said_report-injective (Err (NoRun k)) (Ok _) e = let y = ap (λ (s : Said). s.number) e in absurd (omega arith)
said_report-injective (Ok _) (Err (Refused w)) e = let z = number-some w in let y = ap (λ (s : Said). s.number) e in absurd (omega arith)
said_report-injective (Ok _) (Err (NoRun m)) e = let y = ap (λ (s : Said). s.number) e in absurd (omega arith)
said_report-injective (Ok _) (Ok _) e = refl

pub reports-determined : {runs report e e₂ : List ℕ} (a b : Result ⊤ ReportError) → Reports runs report e a → Reports runs report e₂ b → (a ≡ b) × (e ≡ e₂)
reports-determined a b x y = (said_report-injective a b (x.says ∙ sym y.says), x.leaves ∙ sym y.leaves)
