-- A state that was written reads back as the network: the laws `reads-..` have the header's counts, the slots' records and their
-- formulas, `network-reads` the whole network. Assumes nothing.
use mathlib.Core.Path.{◌≡◌, sym, ap, ap₂, ◌∙◌}
use mathlib.Core.List.{List, ◌++◌, append_assoc}
use mathlib.Core.Option.{some}
use Prim.Native.Nat.{ℕ, ◌+◌, ◌<◌, ◌≤◌}
use native.Mathlib.Omega.{arith}
use lib.ListN.{length, get_or, drop}
use lib.Seq.{drop_at, drop-drop, get_or-append-add, ext_get_or}
use Rattle.limits.specs.Limits.{boards_most}
use Rattle.le.specs.Le.{le_at}
use Rattle.le.proofs.Laws.{le_at-behind}
use Rattle.ltl.specs.Formula.{size, encode, Coded}
use Rattle.ltl.specs.Decode.{decoded, some_formula}
use Rattle.ltl.proofs.Decoding.{decoded-of}
use Rattle.network.specs.Layout.{Slot, slot_at}
use Rattle.state.specs.declared.Form.{Form}
use Rattle.state.specs.Form.{form_in, slots_most, nodes_most, slot_rows, slots_at, nodes_at}
use Rattle.state.specs.Fields.{boards_in, slots_in, nodes_in, board_of_in, stepped_in, start_in, length_in, slot_bytes, formula_in}
use Rattle.state.specs.Bytes.{nodes_of, board_records, slot_records, node_bytes, state_of, slot_in, network_of}
use Rattle.state.proofs.Forms.{slots-few, nodes-few}
use Rattle.state.proofs.Numbers.{skip, field}
use Rattle.state.proofs.SlotRows.{start_of, row, row-board, row-mark, row-start, row-length, nodes-of}
use Rattle.state.proofs.Parts as parts
use Rattle.state.proofs.Listed.{network-length, network-at}

module _ (φ : Form) (masks : List ℕ) (slots : List Slot) (ticks : ℕ) (few-boards : length masks ≤ boards_most) (few-slots : length slots ≤ slots_most φ) (few-nodes : nodes_of slots ≤ nodes_most φ)
    (coded : (k : ℕ) → k < length slots → Coded (slot_at slots k).formula) where
  abbrev head : List ℕ
  head = parts.head φ masks slots ticks few-boards few-slots few-nodes coded

  abbrev zeros : List ℕ
  zeros = parts.zeros φ masks slots ticks few-boards few-slots few-nodes coded

  behind-header : state_of φ masks slots ticks ≡ head ++ (board_records φ masks ++ (slot_records 0 slots ++ (node_bytes slots ++ zeros)))
  behind-header = parts.behind-header φ masks slots ticks few-boards few-slots few-nodes coded

  form-reads : form_in (state_of φ masks slots ticks) ≡ φ
  form-reads = parts.reads-form φ masks slots ticks few-boards few-slots few-nodes coded

  -- the header's counts
  pub reads-boards : boards_in (state_of φ masks slots ticks) ≡ length masks
  reads-boards = rw (behind-header, append_assoc) (field 2 (length masks) _ (omega arith))

  pub reads-slots : slots_in (state_of φ masks slots ticks) ≡ length slots
  reads-slots = rw behind-header (simp append_assoc (skip 2 (length masks) _ 0 2 ∙ field 2 (length slots) _ (omega (arith, slots-few φ))))

  pub reads-nodes : nodes_in (state_of φ masks slots ticks) ≡ nodes_of slots
  reads-nodes = rw behind-header (simp append_assoc (skip 2 (length masks) _ 2 2 ∙ skip 2 (length slots) _ 0 2 ∙ field 2 (nodes_of slots) _ (omega (arith, nodes-few φ))))

  -- ---- a slot's record
  record-at : (k at n : ℕ) → le_at (state_of φ masks slots ticks) (slots_at φ (length masks) + slot_rows k + at) n ≡ le_at (slot_records 0 slots ++ (node_bytes slots ++ zeros)) (slot_rows k + at) n
  record-at k at n =
      let e : slots_at φ (length masks) + slot_rows k + at ≡ length (head ++ board_records φ masks) + (slot_rows k + at) = omega (arith, parts.boards-end φ masks slots ticks few-boards few-slots few-nodes coded) in
      ap₂ (λ (x : List ℕ) (i : ℕ). le_at x i n) (parts.behind-boards φ masks slots ticks few-boards few-slots few-nodes coded) e ∙ le_at-behind (head ++ board_records φ masks) (slot_records 0 slots ++ (node_bytes slots ++ zeros)) (slot_rows k + at) n

  byte_at : (k at : ℕ) → get_or (state_of φ masks slots ticks) (slots_at φ (length masks) + slot_rows k + at) 0 ≡ get_or (slot_records 0 slots ++ (node_bytes slots ++ zeros)) (slot_rows k + at) 0
  byte_at k at =
      let e : slots_at φ (length masks) + slot_rows k + at ≡ length (head ++ board_records φ masks) + (slot_rows k + at) = omega (arith, parts.boards-end φ masks slots ticks few-boards few-slots few-nodes coded) in
      ap₂ (λ (x : List ℕ) (i : ℕ). get_or x i 0) (parts.behind-boards φ masks slots ticks few-boards few-slots few-nodes coded) e ∙ get_or-append-add (head ++ board_records φ masks) (slot_records 0 slots ++ (node_bytes slots ++ zeros)) (slot_rows k + at) 0

  module _ (k : ℕ) (l : k < length slots) where
    pub reads-board : board_of_in (state_of φ masks slots ticks) k ≡ (slot_at slots k).board
    unfolding row
    reads-board =
        let z : slots_at φ (length masks) + slot_rows k ≡ slots_at φ (length masks) + slot_rows k + 0 = omega arith in
        let y : slot_rows k + 0 ≡ slot_rows k = omega arith in
        rw (form-reads, reads-boards) (ap (λ (i : ℕ). get_or (state_of φ masks slots ticks) i 0) z ∙ byte_at k 0 ∙ ap (λ (i : ℕ). get_or (slot_records 0 slots ++ (node_bytes slots ++ zeros)) i 0) y ∙ row-board (node_bytes slots ++ zeros) 0 slots k l)

    pub reads-mark : stepped_in (state_of φ masks slots ticks) k ≡ 0
    unfolding row
    reads-mark = rw (form-reads, reads-boards) (byte_at k 1 ∙ row-mark (node_bytes slots ++ zeros) 0 slots k l)

    pub reads-start : start_in (state_of φ masks slots ticks) k ≡ start_of slots k
    unfolding row
    reads-start = rw (form-reads, reads-boards) (record-at k 2 2 ∙ row-start (node_bytes slots ++ zeros) 0 slots k l (omega (arith, nodes-few φ)) ∙ omega arith)

    pub reads-length : length_in (state_of φ masks slots ticks) k ≡ size (slot_at slots k).formula
    unfolding row
    reads-length = rw (form-reads, reads-boards) (record-at k 4 2 ∙ row-length (node_bytes slots ++ zeros) 0 slots k l (omega (arith, nodes-few φ)))

    pub reads_bytes : slot_bytes (state_of φ masks slots ticks) k ≡ encode (slot_at slots k).formula
    reads_bytes =
        let d : drop (nodes_at φ (length masks) (length slots) + start_of slots k) (state_of φ masks slots ticks) ≡ drop (start_of slots k) (node_bytes slots ++ zeros) =
        sym (drop-drop (start_of slots k) (nodes_at φ (length masks) (length slots)) (state_of φ masks slots ticks))
        ∙ ap (drop (start_of slots k)) (ap (drop (nodes_at φ (length masks) (length slots))) (parts.behind-slots φ masks slots ticks few-boards few-slots few-nodes coded) ∙ drop_at ((head ++ board_records φ masks) ++ slot_records 0 slots) (node_bytes slots ++ zeros) (nodes_at φ (length masks) (length slots)) (parts.slots_end φ masks slots ticks few-boards few-slots few-nodes coded)) in
        rw (reads-length, reads-start, form-reads, reads-boards, reads-slots, d) (nodes-of slots zeros k l)

    pub reads-formula : formula_in (state_of φ masks slots ticks) k ≡ some (slot_at slots k).formula
    reads-formula = ap decoded reads_bytes ∙ decoded-of (slot_at slots k).formula (coded k l)

  -- the network that was written is the one that is read
  slot-reads : (k : ℕ) (l : k < length slots) → slot_in (state_of φ masks slots ticks) k ≡ slot_at slots k
  slot-reads k l = λ i. record { board = reads-board k l i; formula = ap some_formula (reads-formula k l) i }

  pub network-reads : network_of (state_of φ masks slots ticks) ≡ slots
  network-reads =
      let n = network-length (state_of φ masks slots ticks) in
      ext_get_or _ _ slots (n ∙ reads-slots) (λ k l. network-at (state_of φ masks slots ticks) k (omega arith) ∙ slot-reads k (omega (arith, reads-slots)))
