-- A row's fields: put one behind the other they are its bytes (`row_put`). Assumes nothing.
use mathlib.Core.Path.{◌≡◌, refl}
use mathlib.Core.List.{List, ◌++◌}
use Prim.Native.Nat.{ℕ, ◌+◌, ◌≤◌}
use lib.ListN.{length, take, drop}
use Rattle.le.specs.Le.{le}
use Rattle.le.proofs.Puts.{number_put}
use Rattle.reports.specs.declared.Row.{Row}
use Rattle.reports.specs.Bytes.{row_bytes, row_length}

pub row_put : (t : List ℕ) (at : ℕ) (x : Row) {s₁ s₂ s₃ s₄ s₅ s₆ s₇ : List ℕ} → at ≤ length t
    → s₁ ≡ take at t ++ (le 4 x.runs ++ drop (at + 4) t)
    → s₂ ≡ take (at + 4) s₁ ++ (le 4 x.falses ++ drop (at + 4 + 4) s₁)
    → s₃ ≡ take (at + 8) s₂ ++ (le 4 x.trues ++ drop (at + 8 + 4) s₂)
    → s₄ ≡ take (at + 12) s₃ ++ (le 4 x.pendings ++ drop (at + 12 + 4) s₃)
    → s₅ ≡ take (at + 16) s₄ ++ (le 4 x.earliest ++ drop (at + 16 + 4) s₄)
    → s₆ ≡ take (at + 20) s₅ ++ (le 4 x.latest ++ drop (at + 20 + 4) s₅)
    → s₇ ≡ take (at + 24) s₆ ++ (le 8 x.sum ++ drop (at + 24 + 8) s₆)
    → s₇ ≡ take at t ++ (row_bytes x ++ drop (at + row_length) t)
unfolding row_bytes le
row_put t at x {s₁} {s₂} {s₃} {s₄} {s₅} {s₆} {s₇} l e₁ e₂ e₃ e₄ e₅ e₆ e₇ =
    let a₁ = le 4 x.runs in
    let a₂ = a₁ ++ le 4 x.falses in
    let a₃ = a₂ ++ le 4 x.trues in
    let a₄ = a₃ ++ le 4 x.pendings in
    let a₅ = a₄ ++ le 4 x.earliest in
    let a₆ = a₅ ++ le 4 x.latest in
    let d₂ = number_put s₁ t a₁ at 4 4 x.falses refl l e₁ e₂ in
    let d₃ = number_put s₂ t a₂ at 8 4 x.trues refl l d₂ e₃ in
    let d₄ = number_put s₃ t a₃ at 12 4 x.pendings refl l d₃ e₄ in
    let d₅ = number_put s₄ t a₄ at 16 4 x.earliest refl l d₄ e₅ in
    let d₆ = number_put s₅ t a₅ at 20 4 x.latest refl l d₅ e₆ in
    number_put s₆ t a₆ at 24 8 x.sum refl l d₆ e₇
