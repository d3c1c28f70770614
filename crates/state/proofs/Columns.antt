-- The masks as a column of the boards' records: what is asked of the reading (`column-ask`), that it gives them (`masks-are`), and that
-- they then stand in front of an array (`masks-front`). Assumes nothing.
use mathlib.Core.Path.{◌≡◌, sym, ap, subst, ◌∙◌}
use mathlib.Core.List.{List, ◌++◌}
use Prim.Native.Nat.{ℕ, ◌+◌, ◌*◌, ◌≤◌}
use native.Mathlib.Omega.{arith}
use lib.ListN.{length, take}
use Rattle.lists.specs.Listed.{listed}
use Rattle.lists.proofs.Listed.{listed-front}
use Rattle.limits.specs.Limits.{boards_most}
use Rattle.le.specs.Le.{le_at}
use Rattle.state.specs.Form.{form_in, board_row, boards_at, board_at, Formed}
use Rattle.state.specs.Fields.{boards_in, mask_in, masks_in}
use Rattle.state.proofs.Forms.{row_room}
use Rattle.state.proofs.Places.{masks-within}

pub column-ask : (s : List ℕ) → Formed s → (n : ℕ) → n ≤ boards_most → {row room : ℕ} → row ≡ board_row (form_in s) → n ≤ room
    → (8 ≤ row) × (boards_at + row * n ≤ length s) × (n ≤ room)
column-ask s long n few {row} e r =
    let a = row_room (form_in s) in
    let w = masks-within s long n few in
    (omega arith, subst (λ (k : ℕ). boards_at + k * n ≤ length s) (sym e) w, r)

pub masks-are : (s : List ℕ) (n : ℕ) (rest : List ℕ) {row : ℕ} {out : List ℕ} → row ≡ board_row (form_in s)
    → out ≡ listed (λ i. le_at s (boards_at + row * i) 8) n ++ rest → out ≡ listed (mask_in s) n ++ rest
unfolding board_at
masks-are s n rest e f = f ∙ ap (λ (k : ℕ). listed (λ i. le_at s (boards_at + k * i) 8) n ++ rest) e

pub masks-front : (s found rest : List ℕ) (b : ℕ) → b ≡ boards_in s → found ≡ listed (mask_in s) b ++ rest → take b found ≡ masks_in s
masks-front s found rest b q e = ap (take b) e ∙ listed-front (mask_in s) b rest ∙ ap (listed (mask_in s)) q
