-- What neither a sample nor a step touches: the header, the masks, each slot's board and start, and the bytes behind the nodes. Two
-- states that have these bytes in common (`Untouched`) have the fields in common (`Framed`, by `framed`), and what is made of these
-- fields alone (`..-same`). Assumes nothing.
use mathlib.Core.Path.{◌≡◌, sym, ap, ap₂, ◌∙◌}
use mathlib.Core.Bool.{true}
use mathlib.Core.List.{List}
use Prim.Native.Nat.{ℕ, ◌+◌, ◌-◌, ◌<◌, ◌≤◌}
use native.Mathlib.Decide.{dec_lt}
use native.Mathlib.Omega.{arith}
use lib.ListN.{length, get_or, drop, length-drop}
use lib.Seq.{get_or-drop, ext_get_or}
use borrow.Author.Tests.{lt-ltb, le-ltb}
use Rattle.lists.specs.Tests.{pick, both, in_range}
use Rattle.le.specs.Le.{le_at}
use Rattle.le.proofs.Laws.{le_at-same}
use Rattle.limits.specs.Limits.{propositions_most}
use Rattle.masks.specs.Masks.{sum_ones, masks_rule}
use Rattle.state.specs.declared.Form.{Form}
use Rattle.state.specs.Form.{form_of, form_in, state_length, Formed, boards_at, board_at, slot_rows, slots_at, nodes_at}
use Rattle.state.specs.Fields.{boards_in, slots_in, nodes_in, boards_offset_in, slots_offset_in, nodes_offset_in, ticks_in, mask_in, masks_in, slot_record_at, board_of_in, start_in, stretch_end, nodes_from}
use Rattle.state.specs.Clauses.{all_zero, places_ok, header_ok, masks_ok, rest_ok}
use Rattle.state.proofs.Listed.{masks-length, masks-at}

-- the fields
pub record Framed (s t : List ℕ) : Type 0 where
  pub long : length t ≡ length s
  pub boards : boards_in t ≡ boards_in s
  pub slots : slots_in t ≡ slots_in s
  pub nodes : nodes_in t ≡ nodes_in s
  pub ticks : ticks_in t ≡ ticks_in s
  pub places : places_ok t ≡ places_ok s
  pub mask : (b : ℕ) → b < boards_in s → mask_in t b ≡ mask_in s b
  pub board : (k : ℕ) → k < slots_in s → board_of_in t k ≡ board_of_in s k
  pub start : (k : ℕ) → k < slots_in s → start_in t k ≡ start_in s k
  pub rest : rest_ok t ≡ rest_ok s

-- ---- from the bytes
pub record Untouched (s t : List ℕ) : Type 0 where
  pub long : length t ≡ length s
  pub front : (i : ℕ) → i < boards_at → get_or t i 0 ≡ get_or s i 0
  pub mask : (b : ℕ) → b < boards_in s → le_at t (board_at (form_in s) b) 8 ≡ mask_in s b
  pub board : (k : ℕ) → k < slots_in s → get_or t (slot_record_at s k) 0 ≡ board_of_in s k
  pub start : (k : ℕ) → k < slots_in s → le_at t (slot_record_at s k + 2) 2 ≡ start_in s k
  pub behind : (i : ℕ) → nodes_from s + nodes_in s ≤ i → get_or t i 0 ≡ get_or s i 0

module _ {s t : List ℕ} (u : Untouched s t) where
  form-is : form_in t ≡ form_in s
  form-is = ap form_of u.long

  -- a field of the header
  front_same : (at n : ℕ) → at + n ≤ boards_at → le_at t at n ≡ le_at s at n
  front_same at n h = le_at-same t s at n (λ j a b. u.front j (omega arith))

  boards-are : boards_in t ≡ boards_in s
  boards-are = front_same 0 2 (omega arith)

  slots-are : slots_in t ≡ slots_in s
  slots-are = front_same 2 2 (omega arith)

  nodes-are : nodes_in t ≡ nodes_in s
  nodes-are = front_same 4 2 (omega arith)

  record_is : (k : ℕ) → slot_record_at t k ≡ slot_record_at s k
  record_is k = ap₂ (λ (φ : Form) (b : ℕ). slots_at φ b + slot_rows k) form-is boards-are

  from_is : nodes_from t ≡ nodes_from s
  from_is = λ i. nodes_at (form-is i) (boards-are i) (slots-are i)

  places-are : places_ok t ≡ places_ok s
  unfolding places_ok
  places-are =
      let a : boards_offset_in t ≡ boards_offset_in s = front_same 6 2 (omega arith) in
      let b : slots_offset_in t ≡ slots_offset_in s = front_same 8 2 (omega arith) in
      let c : nodes_offset_in t ≡ nodes_offset_in s = front_same 10 2 (omega arith) in
      rw (form-is, boards-are, slots-are, a, b, c)

  rest-is : rest_ok t ≡ rest_ok s
  unfolding rest_ok
  rest-is =
      let at = nodes_from s + nodes_in s in
      let d : drop at t ≡ drop at s =
      ext_get_or 0 (drop at t) (drop at s) (length-drop at t ∙ ap (λ (n : ℕ). n - at) u.long ∙ sym (length-drop at s))
      (λ i l. get_or-drop at t i 0 ∙ u.behind (at + i) (omega arith) ∙ sym (get_or-drop at s i 0)) in
      ap₂ (λ (i j : ℕ). all_zero (drop (i + j) t)) from_is nodes-are ∙ ap all_zero d

  pub framed : Framed s t
  framed =
      record {
        long = u.long;
        boards = boards-are;
        slots = slots-are;
        nodes = nodes-are;
        ticks = front_same 12 4 (omega arith);
        places = places-are;
        mask = λ b l. ap (λ (φ : Form). le_at t (board_at φ b) 8) form-is ∙ u.mask b l;
        board = λ k l. ap (λ (i : ℕ). get_or t i 0) (record_is k) ∙ u.board k l;
        start = λ k l. ap (λ (i : ℕ). le_at t (i + 2) 2) (record_is k) ∙ u.start k l;
        rest = rest-is;
      }

-- ---- what is made of these fields
module _ {s t : List ℕ} (f : Framed s t) where
  pub form-same : form_in t ≡ form_in s
  form-same = ap form_of f.long

  pub record-at-same : (k : ℕ) → slot_record_at t k ≡ slot_record_at s k
  record-at-same k = ap₂ (λ (φ : Form) (b : ℕ). slots_at φ b + slot_rows k) form-same f.boards

  pub nodes-from-same : nodes_from t ≡ nodes_from s
  nodes-from-same = λ i. nodes_at (form-same i) (f.boards i) (f.slots i)

  pub masks-same : masks_in t ≡ masks_in s
  masks-same =
      let e = f.boards in
      ext_get_or 0 (masks_in t) (masks_in s) (masks-length t ∙ e ∙ sym (masks-length s))
      (λ i l.
      (let m : i < boards_in s = omega (arith, masks-length t) in
      masks-at t i (omega arith) ∙ f.mask i m ∙ sym (masks-at s i m)))

  pub mask-of-same : (k : ℕ) → k < slots_in s → board_of_in s k < boards_in s → mask_in t (board_of_in t k) ≡ mask_in s (board_of_in s k)
  mask-of-same k l h = ap (mask_in t) (f.board k l) ∙ f.mask (board_of_in s k) h

  pub end_same : (k : ℕ) → stretch_end t k ≡ stretch_end s k
  unfolding stretch_end pick
  end_same k =
      elim (dec_lt (k + 1) (slots_in s)) [
        | yes h ↦ rw (f.slots, lt-ltb (k + 1) (slots_in s) h) (f.start (k + 1) h)
        | no h ↦ (let q : slots_in s ≤ k + 1 = omega arith in rw (f.slots, le-ltb (k + 1) (slots_in s) q) f.nodes)
      ]

  -- clauses
  pub formed-same : Formed s → Formed t
  formed-same e = f.long ∙ e ∙ sym (ap state_length form-same)

  pub header-same : header_ok t ≡ header_ok s
  unfolding header_ok
  header-same = rw (form-same, f.boards, f.slots, f.nodes, f.places)

  pub masks-pass : masks_ok s ≡ true → masks_ok t ≡ true
  unfolding masks_ok
  masks-pass e = ap (λ (ms : List ℕ). both (in_range propositions_most (sum_ones ms)) (masks_rule (sum_ones ms) ms)) masks-same ∙ e
