-- Where the fields of a state lie, the counts being the header's: `head-within`, `board-within`, `record-within` and `parts_within` that
-- they lie in it, `record_is` and `spans` that the counts lead to them. Assumes nothing.
use mathlib.Core.Path.{◌≡◌, ap, ◌∙◌}
use mathlib.Core.List.{List}
use Prim.Native.Nat.{ℕ, ◌+◌, ◌*◌, ◌<◌, ◌≤◌}
use native.Mathlib.Omega.{arith}
use lib.ListN.{length, drop, length-drop}
use lib.Seq.{length-take-le}
use Rattle.limits.specs.Limits.{boards_most}
use Rattle.state.specs.declared.Counts.{Counts}
use Rattle.state.specs.declared.Form.{Form}
use Rattle.state.specs.Form.{form_in, state_length, board_row, boards_at, board_at, slot_row, slot_rows, Formed}
use Rattle.state.specs.Fields.{boards_in, slots_in, nodes_in, nodes_from, slot_record_at, start_in, length_in, slot_bytes}
use Rattle.state.specs.Counted.{Header, Sized, record_of, InStretch, Spans}
use Rattle.state.proofs.Forms.{row_room, board-behind, board-room, form-room}

rows-within : (φ : Form) (n : ℕ) → n ≤ boards_most → (long : ℕ) → long ≡ state_length φ → boards_at + board_row φ * n ≤ long
unfolding board_at
rows-within φ n l long e = let f = form-room φ n 0 0 l (omega arith) (omega arith) in omega arith

-- the header, and a board's record
module _ (s : List ℕ) (long : Formed s) where
  pub head-within : boards_at ≤ length s
  head-within =
      let a = board-behind (form_in s) 0 in
      let b = board-room (form_in s) 0 (omega arith) in
      omega arith

  pub board-within : (i : ℕ) → i < boards_most → board_at (form_in s) i + 17 ≤ length s
  board-within i l =
      let a = row_room (form_in s) in
      let b = board-room (form_in s) i l in
      omega arith

  -- the rows of some boards
  pub masks-within : (n : ℕ) → n ≤ boards_most → boards_at + board_row (form_in s) * n ≤ length s
  masks-within n l = rows-within (form_in s) n l (length s) long

module _ (s : List ℕ) (c : Counts) (z : Sized s c) where
  -- all records and nodes
  pub parts_within : c.stretches + c.nodes ≤ length s
  parts_within =
      let h = z.header in
      let l = z.long in
      let few-boards : boards_in s ≤ boards_most = (let e = h.boards-are in let f = z.few-boards in omega arith) in
      let f = form-room (form_in s) (boards_in s) (slots_in s) (nodes_in s) few-boards (let e = h.slots-are in let y = z.few-slots in omega arith) (let e = h.nodes-are in let y = z.few-nodes in omega arith) in
      let p = h.stretches-at in
      let q = h.nodes-are in
      omega arith

  -- a slot's record
  pub record-within : (k : ℕ) → k < c.slots → record_of c k + slot_row ≤ length s
  record-within k l =
      let h = z.header in
      let p = parts_within in
      let a = h.records-at in
      let b = h.stretches-at in
      let e = h.slots-are in
      omega arith

  pub node-within : (k : ℕ) → InStretch s k → nodes_from s + start_in s k + length_in s k ≤ length s
  node-within k i =
      let p = parts_within in
      let b = z.header.stretches-at in
      let q = z.header.nodes-are in
      let u = i.used in
      let e = i.ends in
      omega arith

  pub spans : (k start size : ℕ) → InStretch s k → start ≡ start_in s k → size ≡ length_in s k → Spans s k (c.stretches + start) (c.stretches + start + size)
  spans k start size i a e =
      let b = z.header.stretches-at in
      let w = node-within k i in
      record { from_is = omega arith; to_is = omega arith; within = omega arith }

  pub bytes-length : (k : ℕ) → InStretch s k → length (slot_bytes s k) ≡ length_in s k
  bytes-length k i =
      let node = nodes_from s + start_in s k in
      let d = length-drop node s in
      let w = node-within k i in
      length-take-le (length_in s k) (drop node s) (omega arith)

pub record_is : {s : List ℕ} {c : Counts} → Header s c → (k : ℕ) → record_of c k ≡ slot_record_at s k
record_is h k = ap (λ (n : ℕ). n + slot_rows k) h.records-at

-- a board's record, by the form that the code has found
pub place_is : (s : List ℕ) (i : ℕ) {φ : Form} {at : ℕ} → φ ≡ form_in s → at ≡ board_at φ i → at ≡ board_at (form_in s) i
place_is s i e a = a ∙ ap (λ (ψ : Form). board_at ψ i) e
