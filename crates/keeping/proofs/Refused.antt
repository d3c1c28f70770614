-- What a refusal tells: it is not an acceptance (`refused-not-done`), and what the call was lent stays (`refused-leaves`). Assumes nothing.
use Rattle.std.specs.Prelude.{Result, Ok, Err, ⊤}
use mathlib.Core.Path.{◌≡◌, sym, ap, ◌∙◌}
use mathlib.Core.List.{List}
use Prim.Native.Nat.{ℕ}
use native.Mathlib.Omega.{arith}
use Rattle.answers.specs.declared.Refusal.{Refusal}
use Rattle.answers.specs.Said.{Said, refused, left, number_of}
use Rattle.answers.proofs.Answers.{left-refused}

pub refused-not-done : (why : Refusal) → ◌≡◌ {A = Result ⊤ Refusal} (Err why) (Ok tt) → ⊥
refused-not-done why e = let z : ◌≡◌ {A = ℕ} 0 1 = cc in omega arith

pub refused-leaves : (why : Refusal) (a : Said) (output before : List ℕ) → refused (number_of why) ≡ a → left a output before ≡ before
refused-leaves why a output before e = ap (λ (b : Said). left b output before) (sym e) ∙ left-refused why output before
