-- The header and the boards' records, as they are put: room for both (`front-room`), and what is asked for the boards (`boards-ask`).
-- Assumes nothing.
use mathlib.Core.Path.{◌≡◌, sym, ap, ap₂, subst, ◌∙◌}
use mathlib.Core.List.{List, ◌++◌}
use Prim.Native.Nat.{ℕ, ◌+◌, ◌*◌, ◌<◌, ◌≤◌}
use native.Mathlib.Omega.{arith}
use lib.ListN.{length, drop}
use Rattle.limits.specs.Limits.{boards_most, slots_room}
use Rattle.state.specs.declared.Form.{Form}
use Rattle.state.specs.Form.{form_in, slots_most, board_row, boards_at, slots_at, slot_rows, Formed}
use Rattle.state.proofs.Forms.{slots-few, length-few, form-room, board-behind}
use Rattle.lists.specs.Runs.{tail, tail_as}
use Rattle.le.specs.Le.{le}
use Rattle.state.specs.Bytes.{state_header, board_records}
use Rattle.state.proofs.Places.{masks-within}
use Rattle.state.proofs.Putting.{front-put}

-- the counts and places of the header have two bytes each
pub record FrontRoom (s : List ℕ) (b n : ℕ) : Type 0 where
  pub slots : n ≤ slots_room
  pub places : slots_at (form_in s) b + slot_rows n < 65536
  pub head : boards_at ≤ length s
  pub boards : boards_at + board_row (form_in s) * b ≤ length s

pub front-room : (s : List ℕ) → Formed s → {b n : ℕ} → b ≤ boards_most → n ≤ slots_most (form_in s) → FrontRoom s b n
front-room s long {b} {n} x y =
    let φ = form_in s in
    let few = slots-few φ in
    let l = length-few φ in
    let f = form-room φ b n 0 x y (omega arith) in
    let h = board-behind φ b in
    let w = masks-within s long b x in
    record { slots = omega arith; places = omega arith; head = omega arith; boards = w }

pub boards-fit : (s : List ℕ) (n : ℕ) {φ : Form} {room : ℕ} → φ ≡ form_in s → boards_at + board_row (form_in s) * n ≤ length s → length s ≡ boards_at + room → board_row φ * n ≤ room
boards-fit s n {room = room} e l q = subst (λ (ψ : Form). board_row ψ * n ≤ room) (sym e) (omega arith)

-- both as they were put
pub front-done : (s masks : List ℕ) (slots nodes ticks : ℕ) {φ : Form} {at places : ℕ} {t x : List ℕ} → φ ≡ form_in s → at ≡ slots_at (form_in s) (length masks) → places ≡ slot_rows slots
    → t ≡ (le 2 (length masks) ++ (le 2 slots ++ (le 2 nodes ++ (le 2 boards_at ++ (le 2 at ++ (le 2 (at + places) ++ le 4 ticks)))))) ++ drop boards_at s
    → x ≡ board_records φ masks ++ drop (board_row φ * length masks) (tail boards_at t)
    → tail_as boards_at t x ≡ (state_header (form_in s) (length masks) slots nodes ticks ++ board_records (form_in s) masks) ++ drop (slots_at (form_in s) (length masks)) s
front-done s masks slots nodes ticks {t = t} {x = x} e a p f g =
    let h : t ≡ state_header (form_in s) (length masks) slots nodes ticks ++ drop boards_at s = f ∙ ap₂ (λ (i j : ℕ). (le 2 (length masks) ++ (le 2 slots ++ (le 2 nodes ++ (le 2 boards_at ++ (le 2 i ++ (le 2 j ++ le 4 ticks)))))) ++ drop boards_at s) a (ap₂ ◌+◌ a p) in
    front-put (form_in s) masks s t x slots nodes ticks h (g ∙ ap (λ (ψ : Form). board_records ψ masks ++ drop (board_row ψ * length masks) (tail boards_at t)) e)
