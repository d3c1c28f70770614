-- The forms of a state: what its length says of its records and its limits. A further form is a further case here.
-- Assumes nothing: these are definitions.
use Rattle.std.specs.Prelude.{◌≡◌, ℕ, ◌+◌, ◌*◌, List, length}
use Rattle.state.specs.declared.Form.{Form}
use Rattle.state.specs.declared.Form.TheVariants.{Plain}

-- the form that a state of this length has
unfoldable pub form_of : ℕ → Form
form_of long = Plain

abbrev pub form_in : List ℕ → Form
form_in s = form_of (length s)

-- the buffer's length
abbrev pub state_length : Form → ℕ
state_length Plain = 4768

-- a buffer of the length that its form has
abbrev pub Formed : List ℕ → Type 0
Formed s = length s ≡ state_length (form_in s)

-- the length of a board's record
abbrev pub board_row : Form → ℕ
board_row Plain = 17

-- the most slots, and the most nodes of all slots together
abbrev pub slots_most : Form → ℕ
slots_most Plain = 64

abbrev pub nodes_most : Form → ℕ
nodes_most Plain = 4096

-- ---- where the parts begin, for b boards and n slots
abbrev pub boards_at : ℕ
boards_at = 16

-- where board i's record begins; nobody but the laws of this crate multiplies by a row
unfoldable pub board_at : Form → ℕ → ℕ
board_at φ i = boards_at + board_row φ * i

-- the length of a slot's record, and of n of them
abbrev pub slot_row : ℕ
slot_row = 6

abbrev pub slot_rows : ℕ → ℕ
slot_rows n = slot_row * n

abbrev pub slots_at : Form → ℕ → ℕ
slots_at φ b = board_at φ b

abbrev pub nodes_at : Form → ℕ → ℕ → ℕ
nodes_at φ b n = slots_at φ b + slot_rows n
