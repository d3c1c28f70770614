-- All that is known of a form, by cases on it; nobody else looks at one, or multiplies by a board's row. `boards-apart`,
-- `board-room` are where the boards' records are, `form-room` that all parts lie in the state; `form-at` is the form of a buffer of a form's
-- length. Assumes nothing.
use mathlib.Core.Path.{◌≡◌, refl, sym, ap, ◌∙◌}
use mathlib.Core.List.{List}
use Prim.Native.Nat.{ℕ, suc, ◌+◌, ◌*◌, ◌<◌, ◌≤◌}
use native.Mathlib.Omega.{arith}
use lib.ListN.{length}
use Rattle.limits.specs.Limits.{boards_most, slots_room, nodes_room, holder_codes}
use Rattle.state.specs.declared.Form.{Form}
use Rattle.state.specs.declared.Form.TheVariants.{Plain}
use Rattle.state.specs.Form.{form_of, form_in, state_length, Formed, board_row, slots_most, nodes_most, boards_at, board_at, nodes_at}

-- a state of a form's length has that form
pub form-length : (φ : Form) → form_of (state_length φ) ≡ φ
unfolding form_of
form-length Plain = refl

-- a buffer of a form's length has that form
pub form-at : (φ : Form) (s : List ℕ) → length s ≡ state_length φ → form_in s ≡ φ
form-at φ s e = ap form_of e ∙ form-length φ

pub formed-at : (φ : Form) (s : List ℕ) → length s ≡ state_length φ → Formed s
formed-at φ s e = e ∙ ap state_length (sym (form-at φ s e))

-- there is one form
pub form-one : (φ ψ : Form) → φ ≡ ψ
form-one Plain Plain = refl

-- ---- the limits
pub slots-few : (φ : Form) → slots_most φ ≤ slots_room
slots-few Plain = omega arith

-- each slot has a place holder's code
pub slots-coded : (φ : Form) → slots_most φ ≤ holder_codes
slots-coded Plain = omega arith

pub nodes-few : (φ : Form) → nodes_most φ ≤ nodes_room
nodes-few Plain = omega arith

pub slots-some : (φ : Form) → 1 ≤ slots_most φ
slots-some Plain = omega arith

pub nodes-some : (φ : Form) → 1 ≤ nodes_most φ
nodes-some Plain = omega arith

-- ---- a board's record has its three fields
pub row_room : (φ : Form) → 17 ≤ board_row φ
row_room Plain = omega arith

pub row-few : (φ : Form) → board_row φ ≤ 64
row-few Plain = omega arith

-- ---- where the boards' records are
pub row_next : (φ : Form) (i : ℕ) → board_row φ * suc i ≡ board_row φ + board_row φ * i
row_next Plain i = omega arith

pub row_first : (φ : Form) → board_row φ * 0 ≡ 0
row_first φ = omega arith

pub row-product : (φ : Form) (i : ℕ) → board_row φ * i ≤ 64 * i
row-product Plain i = omega arith

pub boards-begin : (φ : Form) → board_at φ 0 ≡ boards_at
unfolding board_at
boards-begin Plain = omega arith

pub boards-after : (φ : Form) (b : ℕ) → board_at φ b ≡ boards_at + board_row φ * b
unfolding board_at
boards-after φ b = refl

pub boards-apart : (φ : Form) (i j : ℕ) → i < j → board_at φ i + board_row φ ≤ board_at φ j
unfolding board_at
boards-apart Plain i j l = omega arith

pub board-few : (φ : Form) (i : ℕ) → board_at φ i ≤ 16 + 64 * i
unfolding board_at
board-few Plain i = omega arith

-- a header is before all records
pub board-behind : (φ : Form) (i : ℕ) → boards_at ≤ board_at φ i
unfolding board_at
board-behind Plain i = omega arith

-- ---- all parts lie in the state
pub form-room : (φ : Form) (b n m : ℕ) → b ≤ boards_most → n ≤ slots_most φ → m ≤ nodes_most φ → nodes_at φ b n + m ≤ state_length φ
unfolding board_at
form-room Plain b n m x y z = omega arith

pub board-room : (φ : Form) (i : ℕ) → i < boards_most → board_at φ i + board_row φ ≤ state_length φ
unfolding board_at
board-room Plain i l = omega arith

-- every place has two bytes in the header
pub length-few : (φ : Form) → state_length φ < 65536
length-few Plain = omega arith
