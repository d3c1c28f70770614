-- A state that was written, cut at its parts (`behind-header`, `behind-boards`, `behind-slots`), its length and its form. Assumes
-- nothing.
use mathlib.Core.Path.{◌≡◌, sym, ◌∙◌}
use mathlib.Core.List.{List, ◌++◌, append_assoc}
use Prim.Native.Nat.{ℕ, ◌+◌, ◌-◌, ◌<◌, ◌≤◌}
use native.Mathlib.Omega.{arith}
use lib.ListN.{length, replicate, length-append, length-replicate}
use Rattle.limits.specs.Limits.{boards_most}
use Rattle.ltl.specs.Formula.{Coded}
use Rattle.network.specs.Layout.{Slot, slot_at}
use Rattle.state.specs.declared.Form.{Form}
use Rattle.state.specs.Form.{form_in, state_length, slots_most, nodes_most, slots_at, nodes_at}
use Rattle.state.specs.Bytes.{nodes_of, state_header, board_records, slot_records, node_bytes, state_of}
use Rattle.state.proofs.Forms.{form-at, form-room, boards-after}
use Rattle.state.proofs.Putting.{header-length, boards-length}
use Rattle.state.proofs.SlotRows.{records-length, nodes-length}

-- ---- a whole state
module _ (φ : Form) (masks : List ℕ) (slots : List Slot) (ticks : ℕ) (few-boards : length masks ≤ boards_most) (few-slots : length slots ≤ slots_most φ) (few-nodes : nodes_of slots ≤ nodes_most φ)
    (coded : (k : ℕ) → k < length slots → Coded (slot_at slots k).formula) where
  unfoldable pub zeros : List ℕ
  zeros =
      replicate (state_length φ - length (state_header φ (length masks) (length slots) (nodes_of slots) ticks ++ (board_records φ masks ++ (slot_records 0 slots ++ node_bytes slots)))) 0

  abbrev pub head : List ℕ
  head = state_header φ (length masks) (length slots) (nodes_of slots) ticks

  -- the state cut behind its header, and behind its boards
  pub behind-header : state_of φ masks slots ticks ≡ head ++ (board_records φ masks ++ (slot_records 0 slots ++ (node_bytes slots ++ zeros)))
  unfolding state_of zeros
  behind-header = simp append_assoc

  pub behind-boards : state_of φ masks slots ticks ≡ (head ++ board_records φ masks) ++ (slot_records 0 slots ++ (node_bytes slots ++ zeros))
  behind-boards = behind-header ∙ sym (append_assoc head (board_records φ masks) (slot_records 0 slots ++ (node_bytes slots ++ zeros)))

  pub boards-end : length (head ++ board_records φ masks) ≡ slots_at φ (length masks)
  boards-end = omega (arith, length-append head (board_records φ masks), header-length φ (length masks) (length slots) (nodes_of slots) ticks, boards-length φ masks, boards-after φ (length masks))

  pub behind-slots : state_of φ masks slots ticks ≡ ((head ++ board_records φ masks) ++ slot_records 0 slots) ++ (node_bytes slots ++ zeros)
  behind-slots = behind-boards ∙ sym (append_assoc (head ++ board_records φ masks) (slot_records 0 slots) (node_bytes slots ++ zeros))

  pub slots_end : length ((head ++ board_records φ masks) ++ slot_records 0 slots) ≡ nodes_at φ (length masks) (length slots)
  slots_end = omega (arith, length-append (head ++ board_records φ masks) (slot_records 0 slots), boards-end, records-length 0 slots)

  -- ---- the whole, and its form
  content-length : length (head ++ (board_records φ masks ++ (slot_records 0 slots ++ node_bytes slots))) ≡ nodes_at φ (length masks) (length slots) + nodes_of slots
  content-length =
      omega (
        arith,
        boards-end,
        length-append head (board_records φ masks),
        length-append head (board_records φ masks ++ (slot_records 0 slots ++ node_bytes slots)),
        length-append (board_records φ masks) (slot_records 0 slots ++ node_bytes slots),
        length-append (slot_records 0 slots) (node_bytes slots),
        records-length 0 slots,
        nodes-length slots,
      )

  pub state-length : length (state_of φ masks slots ticks) ≡ state_length φ
  unfolding state_of
  state-length =
      let l = head ++ (board_records φ masks ++ (slot_records 0 slots ++ node_bytes slots)) in
      let n = state_length φ - length l in
      omega (arith, content-length, form-room φ (length masks) (length slots) (nodes_of slots) few-boards few-slots few-nodes, length-append l (replicate n 0), length-replicate {A = ℕ} n 0)

  pub reads-form : form_in (state_of φ masks slots ticks) ≡ φ
  reads-form = form-at φ (state_of φ masks slots ticks) state-length
