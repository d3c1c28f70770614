-- The rest of a state that was written: its length, its offsets and ticks, its masks, its boards that have not sampled, its stretches
-- without a gap and the zeros behind its nodes. Assumes nothing.
use mathlib.Core.Path.{◌≡◌, refl, sym, ap, ap₂, ◌∙◌}
use mathlib.Core.Bool.{true}
use mathlib.Core.List.{List, [], ◌∷◌, ◌++◌, append_assoc}
use Prim.Native.Nat.{ℕ, zero, suc, ◌+◌, ◌-◌, ◌*◌, ◌^◌, ◌<◌, ◌≤◌}
use native.Mathlib.Decide.{dec_lt}
use native.Mathlib.Omega.{arith}
use lib.ListN.{length, get_or, drop, replicate}
use lib.Seq.{drop_at, drop-drop, get_or-append-add, ext_get_or}
use borrow.Author.Tests.{lt-ltb, le-ltb}
use Rattle.limits.specs.Limits.{boards_most}
use Rattle.lists.specs.Tests.{pick, both}
use Rattle.le.specs.Le.{le_at}
use Rattle.le.proofs.Laws.{le_at-behind}
use Rattle.ltl.specs.Formula.{size, Coded}
use Rattle.network.specs.Layout.{Slot, slot_at}
use Rattle.state.specs.declared.Form.{Form}
use Rattle.state.specs.Form.{form_in, state_length, slots_most, nodes_most, board_row, boards_at, board_at, slots_at, nodes_at}
use Rattle.state.specs.Fields.{ticks_in, boards_offset_in, slots_offset_in, nodes_offset_in, mask_in, sample_in, sampled_in, masks_in, stretch_end}
use Rattle.state.specs.Clauses.{all_zero, rest_ok}
use Rattle.state.specs.Bytes.{nodes_of, state_header, board_records, slot_records, node_bytes, state_of}
use Rattle.state.proofs.Forms.{length-few, form-room, boards-after}
use Rattle.state.proofs.Numbers.{skip, field}
use Rattle.state.proofs.Putting.{header-length}
use Rattle.state.proofs.SlotRows.{start_of, nodes-length}
use Rattle.state.proofs.BoardRows.{row-mask, row-sample, row-sampled}
use Rattle.state.proofs.Parts as parts
use Rattle.state.proofs.Listed.{masks-length, masks-at}
use Rattle.state.proofs.Reading.{reads-boards, reads-slots, reads-nodes, reads-start}

-- where the next slot starts, and where the nodes end
start-next : (ss : List Slot) (k : ℕ) → k + 1 < length ss → start_of ss (k + 1) ≡ start_of ss k + size (slot_at ss k).formula
unfolding start_of
start-next [] k l = absurd (omega arith)
start-next (s ∷ []) k l = absurd (omega arith)
start-next (s ∷ t ∷ ss) zero l = omega arith
start-next (s ∷ t ∷ ss) (suc k) l =
    let e : suc k + 1 ≡ suc (k + 1) = omega arith in
    rw e (omega (arith, start-next (t ∷ ss) k (omega arith)))

start-last : (ss : List Slot) (k : ℕ) → k + 1 ≡ length ss → nodes_of ss ≡ start_of ss k + size (slot_at ss k).formula
unfolding start_of
start-last [] k l = absurd (omega arith)
start-last (s ∷ []) zero l = omega arith
start-last (s ∷ []) (suc k) l = absurd (omega arith)
start-last (s ∷ t ∷ ss) zero l = absurd (omega arith)
start-last (s ∷ t ∷ ss) (suc k) l = omega (arith, start-last (t ∷ ss) k (omega arith))

pub zeros-zero : (n : ℕ) → all_zero (replicate n 0) ≡ true
unfolding all_zero both
zeros-zero zero = refl
zeros-zero (suc n) = zeros-zero n

parts-zero : (φ : Form) (masks : List ℕ) (slots : List Slot) (ticks : ℕ) (few-boards : length masks ≤ boards_most) (few-slots : length slots ≤ slots_most φ) (few-nodes : nodes_of slots ≤ nodes_most φ)
    (coded : (k : ℕ) → k < length slots → Coded (slot_at slots k).formula) → all_zero (parts.zeros φ masks slots ticks few-boards few-slots few-nodes coded) ≡ true
unfolding parts.zeros
parts-zero φ masks slots ticks few-boards few-slots few-nodes coded =
    zeros-zero (state_length φ - length (state_header φ (length masks) (length slots) (nodes_of slots) ticks ++ (board_records φ masks ++ (slot_records 0 slots ++ node_bytes slots))))

-- ---- a whole state
module _ (φ : Form) (masks : List ℕ) (slots : List Slot) (ticks : ℕ) (few-boards : length masks ≤ boards_most) (few-slots : length slots ≤ slots_most φ) (few-nodes : nodes_of slots ≤ nodes_most φ)
    (coded : (k : ℕ) → k < length slots → Coded (slot_at slots k).formula) where
  abbrev state : List ℕ
  state = state_of φ masks slots ticks

  -- what stands behind the boards
  abbrev behind : List ℕ
  behind = slot_records 0 slots ++ (node_bytes slots ++ parts.zeros φ masks slots ticks few-boards few-slots few-nodes coded)

  abbrev front : List ℕ
  front = parts.head φ masks slots ticks few-boards few-slots few-nodes coded

  split : state ≡ front ++ (board_records φ masks ++ behind)
  split = parts.behind-header φ masks slots ticks few-boards few-slots few-nodes coded

  front_length : length front ≡ boards_at
  front_length = header-length φ (length masks) (length slots) (nodes_of slots) ticks

  room : nodes_at φ (length masks) (length slots) + nodes_of slots ≤ state_length φ
  room = form-room φ (length masks) (length slots) (nodes_of slots) few-boards few-slots few-nodes

  form-reads : form_in state ≡ φ
  form-reads = parts.reads-form φ masks slots ticks few-boards few-slots few-nodes coded

  -- ---- the offsets and the ticks
  pub reads-boards-offset : boards_offset_in state ≡ boards_at
  reads-boards-offset =
      rw split (simp append_assoc (skip 2 (length masks) _ 4 2 ∙ skip 2 (length slots) _ 2 2 ∙ skip 2 (nodes_of slots) _ 0 2 ∙ field 2 boards_at _ (omega arith)))

  pub reads-slots-offset : slots_offset_in state ≡ slots_at φ (length masks)
  reads-slots-offset =
      rw split
      (simp append_assoc
      (skip 2 (length masks) _ 6 2 ∙ skip 2 (length slots) _ 4 2 ∙ skip 2 (nodes_of slots) _ 2 2 ∙ skip 2 boards_at _ 0 2 ∙ field 2 (slots_at φ (length masks)) _ (omega (arith, room, length-few φ))))

  pub reads-nodes-offset : nodes_offset_in state ≡ nodes_at φ (length masks) (length slots)
  reads-nodes-offset =
      rw split
      (simp append_assoc
      (skip 2 (length masks) _ 8 2 ∙ skip 2 (length slots) _ 6 2 ∙ skip 2 (nodes_of slots) _ 4 2 ∙ skip 2 boards_at _ 2 2 ∙ skip 2 (slots_at φ (length masks)) _ 0 2
      ∙ field 2 (nodes_at φ (length masks) (length slots)) _ (omega (arith, room, length-few φ))))

  pub reads-ticks : ticks < 2 ^ 32 → ticks_in state ≡ ticks
  reads-ticks h =
      rw split
      (simp append_assoc
      (skip 2 (length masks) _ 10 4 ∙ skip 2 (length slots) _ 8 4 ∙ skip 2 (nodes_of slots) _ 6 4 ∙ skip 2 boards_at _ 4 4 ∙ skip 2 (slots_at φ (length masks)) _ 2 4
      ∙ skip 2 (nodes_at φ (length masks) (length slots)) _ 0 4 ∙ field 4 ticks _ (omega arith)))

  -- ---- the boards
  board-field : (at n : ℕ) → le_at state (boards_at + at) n ≡ le_at (board_records φ masks ++ behind) at n
  board-field at n = ap₂ (λ (x : List ℕ) (i : ℕ). le_at x (i + at) n) split (sym front_length) ∙ le_at-behind front (board_records φ masks ++ behind) at n

  module _ (i : ℕ) (l : i < length masks) where
    -- where the record is, behind the header
    place : (at : ℕ) → board_at (form_in state) i + at ≡ boards_at + (board_row φ * i + at)
    place at = ap (λ (ψ : Form). board_at ψ i + at) form-reads ∙ omega (arith, boards-after φ i)

    pub reads-mask : get_or masks i 0 < 2 ^ 64 → mask_in state i ≡ get_or masks i 0
    reads-mask h =
        ap (λ (j : ℕ). le_at state j 8) (ap (λ (ψ : Form). board_at ψ i) form-reads ∙ boards-after φ i) ∙ board-field (board_row φ * i) 8 ∙ row-mask φ behind masks i l h

    pub reads-sample : sample_in state i ≡ 0
    reads-sample = ap (λ (j : ℕ). le_at state j 8) (place 8) ∙ board-field (board_row φ * i + 8) 8 ∙ row-sample φ behind masks i l

    pub reads-sampled : sampled_in state i ≡ 0
    reads-sampled =
        let e : board_at (form_in state) i + 16 ≡ length front + (board_row φ * i + 16) = place 16 ∙ ap (◌+ (board_row φ * i + 16)) (sym front_length) in
        ap₂ (λ (x : List ℕ) (j : ℕ). get_or x j 0) split e ∙ get_or-append-add front (board_records φ masks ++ behind) (board_row φ * i + 16) 0 ∙ row-sampled φ behind masks i l

  pub reads-masks : ((i : ℕ) → i < length masks → get_or masks i 0 < 2 ^ 64) → masks_in state ≡ masks
  reads-masks h =
      let b = reads-boards φ masks slots ticks few-boards few-slots few-nodes coded in
      ext_get_or 0 (masks_in state) masks (masks-length state ∙ b)
      (λ i l. (let q : i < length masks = omega (arith, masks-length state) in masks-at state i (omega (arith, masks-length state)) ∙ reads-mask i q (h i q)))

  -- ---- the stretches
  pub reads_end : (k : ℕ) → k < length slots → stretch_end state k ≡ start_of slots k + size (slot_at slots k).formula
  unfolding stretch_end pick
  reads_end k l =
      elim (dec_lt (k + 1) (length slots)) [
        | yes h ↦
            rw (reads-slots φ masks slots ticks few-boards few-slots few-nodes coded, lt-ltb (k + 1) (length slots) h)
            (reads-start φ masks slots ticks few-boards few-slots few-nodes coded (k + 1) h ∙ start-next slots k h)
        | no h ↦
            (let q : length slots ≤ k + 1 = omega arith in
            rw (reads-slots φ masks slots ticks few-boards few-slots few-nodes coded, le-ltb (k + 1) (length slots) q)
            (reads-nodes φ masks slots ticks few-boards few-slots few-nodes coded ∙ start-last slots k (omega arith)))
      ]

  -- ---- behind the nodes
  pub reads-rest : rest_ok state ≡ true
  unfolding rest_ok
  reads-rest =
      let a = nodes_at φ (length masks) (length slots) in
      let z = parts.zeros φ masks slots ticks few-boards few-slots few-nodes coded in
      let d : drop (a + nodes_of slots) state ≡ z =
      sym (drop-drop (nodes_of slots) a state)
      ∙ ap (drop (nodes_of slots))
      (ap (drop a) (parts.behind-slots φ masks slots ticks few-boards few-slots few-nodes coded)
      ∙ drop_at ((front ++ board_records φ masks) ++ slot_records 0 slots) (node_bytes slots ++ z) a (parts.slots_end φ masks slots ticks few-boards few-slots few-nodes coded))
      ∙ drop_at (node_bytes slots) z (nodes_of slots) (nodes-length slots) in
      rw (form-reads, reads-boards φ masks slots ticks few-boards few-slots few-nodes coded, reads-slots φ masks slots ticks few-boards few-slots few-nodes coded, reads-nodes φ masks slots ticks few-boards few-slots few-nodes coded, d)
      (parts-zero φ masks slots ticks few-boards few-slots few-nodes coded)
