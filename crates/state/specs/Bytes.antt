-- A network as the bytes of a state with nothing sampled or stepped, and the network that a state holds.
-- Assumes nothing: these are definitions.
use Rattle.std.specs.Prelude.{ℕ, ◌+◌, ◌-◌, List, [], ◌∷◌, ◌++◌, length, replicate}
use Rattle.lists.specs.Runs.{padded}
use Rattle.lists.specs.Listed.{listed}
use Rattle.le.specs.Le.{le}
use Rattle.ltl.specs.Decode.{some_formula}
use Rattle.ltl.specs.Formula.{Formula, size, encode}
use Rattle.network.specs.Layout.{Slot}
use Rattle.state.specs.declared.Form.{Form}
use Rattle.state.specs.Form.{state_length, board_row, boards_at, slots_at, nodes_at}
use Rattle.state.specs.Fields.{slots_in, board_of_in, formula_in}

-- the nodes of all slots
abbrev pub nodes_of : List Slot → ℕ
nodes_of [] = 0
nodes_of (s ∷ ss) = size s.formula + nodes_of ss

-- ---- the bytes of a network
abbrev pub state_header : Form → ℕ → ℕ → ℕ → ℕ → List ℕ
state_header φ b s n ticks =
    le 2 b ++ (le 2 s ++ (le 2 n ++ (le 2 boards_at ++ (le 2 (slots_at φ b) ++ (le 2 (nodes_at φ b s) ++ le 4 ticks)))))

-- a mask, no sample, not sampled
abbrev pub board_record : Form → ℕ → List ℕ
board_record φ m = le 8 m ++ replicate (board_row φ - 8) 0

abbrev pub board_records : Form → List ℕ → List ℕ
board_records φ [] = []
board_records φ (m ∷ ms) = board_record φ m ++ board_records φ ms

-- a board, not stepped, a start and a length; each next slot starts where the last one's stretch ends
abbrev pub slot_record : ℕ → ℕ → ℕ → List ℕ
slot_record board start n = board ∷ 0 ∷ (le 2 start ++ le 2 n)

abbrev pub slot_records : ℕ → List Slot → List ℕ
slot_records start [] = []
slot_records start (s ∷ ss) = slot_record s.board start (size s.formula) ++ slot_records (start + size s.formula) ss

abbrev pub node_bytes : List Slot → List ℕ
node_bytes [] = []
node_bytes (s ∷ ss) = encode s.formula ++ node_bytes ss

unfoldable pub state_of : Form → List ℕ → List Slot → ℕ → List ℕ
state_of φ masks slots ticks =
    padded (state_length φ)
    (state_header φ (length masks) (length slots) (nodes_of slots) ticks ++ (board_records φ masks ++ (slot_records 0 slots ++ node_bytes slots)))

-- ---- the network of a state
-- the formula of a slot
abbrev pub formula_at : List ℕ → ℕ → Formula
formula_at s k = some_formula (formula_in s k)

-- a slot as the network has it
abbrev pub slot_in : List ℕ → ℕ → Slot
slot_in s k = record { board = board_of_in s k; formula = formula_at s k }

abbrev pub network_of : List ℕ → List Slot
network_of s = listed (slot_in s) (slots_in s)
