-- A state after a step, field by field: it touches its slot's mark, length and nodes alone (`stepped-framed`, `stepped-sample`, `stepped-flag`,
-- `stepped-slot`), and the slot is then marked, has its new length and nodes, and zeros behind them where they were put (`stepped-mark`,
-- `stepped-length`, `stepped-bytes`, `stepped-gap`). Assumes that as many bytes are put as the slot had.
use mathlib.Core.Path.{◌≡◌, refl, sym, ap, ap₂, ◌∙◌}
use mathlib.Core.Bool.{true}
use mathlib.Core.List.{List, [], ◌++◌, append-nil}
use mathlib.Core.Logic.{◌⊎◌, inl, inr, ⊎_elim}
use Prim.Native.Nat.{ℕ, ◌+◌, ◌-◌, ◌^◌, ◌<◌, ◌≤◌}
use native.Mathlib.Nat.{mod-eq_of_lt}
use native.Mathlib.Decide.{dec_lt}
use native.Mathlib.Omega.{arith}
use lib.ListN.{length, get_or, set, take, drop, length-set, length-drop}
use lib.Seq.{take_at, take-append-le, drop-append-le, drop-drop, get_or-set_same, get_or-set_other}
use Rattle.le.specs.Le.{le, le_at}
use Rattle.le.proofs.Laws.{le-length, le_at-same, le_at-le}
use Rattle.state.specs.declared.Counts.{Counts}
use Rattle.state.specs.declared.Form.{Form}
use Rattle.state.specs.Form.{form_in, board_at, slot_row, slots_at}
use Rattle.state.specs.Fields.{boards_in, slots_in, nodes_in, sample_in, sampled_in, slot_record_at, stepped_in, start_in, length_in, stretch_end, slot_bytes, nodes_from}
use Rattle.state.specs.Clauses.{all_zero, gap_ok}
use Rattle.state.specs.Writes.{put_at, slot_stepped}
use Rattle.state.specs.Counted.{Sized, InStretch}
use Rattle.state.proofs.Forms.{length-few, row_room, board-behind, boards-apart}
use Rattle.state.proofs.Places.{parts_within}
use Rattle.state.proofs.Puts.{put-length, put_other, put-field, put-run}
use Rattle.state.proofs.Framed.{Framed, framed, form-same, record-at-same, nodes-from-same, end_same}
use Rattle.state.proofs.SameSlots.{SameSlot, same-slot}
use Rattle.state.proofs.Stretches.{stretch-apart}

module _ (s : List ℕ) {c : Counts} (z : Sized s c) (stretched : (j : ℕ) → j < slots_in s → InStretch s j) (k : ℕ) (l : k < slots_in s) (n : ℕ) (bytes : List ℕ)
    (many : length bytes ≡ length_in s k) where
  abbrev after : List ℕ
  after = slot_stepped s k n bytes

  abbrev at : ℕ
  at = slot_record_at s k

  abbrev node : ℕ
  node = nodes_from s + start_in s k

  abbrev marked : List ℕ
  marked = set s (at + 1) 1

  abbrev counted : List ℕ
  counted = put_at (at + 4) (le 2 n) marked

  -- ---- there is room
  record StepRoom : Type 0 where
    records : at + slot_row ≤ nodes_from s
    end : node + length_in s k ≤ nodes_from s + nodes_in s
    whole : nodes_from s + nodes_in s ≤ length s
    number : length (le 2 n) ≡ 2

  room : StepRoom
  room =
      let p = parts_within s c z in
      let h = z.header.stretches-at in
      let i = z.header.nodes-are in
      let u = (stretched k l).used in
      let e = (stretched k l).ends in
      record { records = omega arith; end = omega arith; whole = omega arith; number = le-length 2 n }

  room-counted : at + 4 + length (le 2 n) ≤ length marked
  room-counted = let r = room in omega (arith, length-set s (at + 1) 1)

  counted-length : length counted ≡ length s
  counted-length = put-length (at + 4) (le 2 n) marked room-counted ∙ length-set s (at + 1) 1

  room-nodes : node + length bytes ≤ length counted
  room-nodes = let r = room in omega (arith, counted-length)

  long : length after ≡ length s
  unfolding slot_stepped
  long = put-length node bytes counted room-nodes ∙ counted-length

  -- ---- bytes that it does not touch
  before-nodes : (i : ℕ) → (node ≤ i → i < node + length_in s k → ⊥) → get_or after i 0 ≡ get_or counted i 0
  unfolding slot_stepped
  before-nodes i h = put_other node bytes counted room-nodes i (λ x y. h x (omega arith))

  elsewhere : (i : ℕ) → (i ≡ at + 1 → ⊥) → (at + 4 ≤ i → i < at + 6 → ⊥) → (node ≤ i → i < node + length_in s k → ⊥) → get_or after i 0 ≡ get_or s i 0
  elsewhere i a b d =
      let r = room in
      before-nodes i d ∙ put_other (at + 4) (le 2 n) marked room-counted i (λ x y. b x (omega arith)) ∙ get_or-set_other s (at + 1) i 1 0 a

  -- before the slots' records
  ahead : (i : ℕ) → i < slots_at (form_in s) (boards_in s) → get_or after i 0 ≡ get_or s i 0
  ahead i h = let r = room in elsewhere i (λ e. omega arith) (λ x y. omega arith) (λ x y. omega arith)

  -- in a board's record
  on-board : (b : ℕ) → b < boards_in s → (i : ℕ) → i < board_at (form_in s) b + 17 → get_or after i 0 ≡ get_or s i 0
  on-board b h i m = ahead i (omega (arith, row_room (form_in s), boards-apart (form_in s) b (boards_in s) h))

  pub stepped-framed : Framed s after
  stepped-framed =
      let r = room in
      framed
      (record {
        long = long;
        front = λ i h. ahead i (omega (arith, board-behind (form_in s) (boards_in s)));
        mask = λ b h. le_at-same after s _ 8 (λ j x y. on-board b h j (omega arith));
        board = λ j h. elsewhere _ (λ e. omega arith) (λ x y. omega arith) (λ x y. omega arith);
        start = λ j h. le_at-same after s _ 2 (λ i x y. elsewhere i (λ e. omega arith) (λ a b. omega arith) (λ a b. omega arith));
        behind = λ i h. elsewhere i (λ e. omega arith) (λ x y. omega arith) (λ x y. omega arith);
      })

  -- the boards' samples and flags
  module _ (b : ℕ) (h : b < boards_in s) where
    pub stepped-sample : sample_in after b ≡ sample_in s b
    stepped-sample = ap (λ (φ : Form). le_at after (board_at φ b + 8) 8) (form-same stepped-framed) ∙ le_at-same after s _ 8 (λ j x y. on-board b h j (omega arith))

    pub stepped-flag : sampled_in after b ≡ sampled_in s b
    stepped-flag = ap (λ (φ : Form). get_or after (board_at φ b + 16) 0) (form-same stepped-framed) ∙ on-board b h _ (omega arith)

  -- another slot
  pub stepped-slot : (j : ℕ) → j < slots_in s → (j ≡ k → ⊥) → SameSlot s after j
  stepped-slot j h other =
      let r = room in
      let used = (stretched k l).used in
      same-slot stepped-framed j h (stretched j h)
      (elsewhere _ (λ e. other (omega arith)) (λ x y. omega arith) (λ x y. omega arith))
      (le_at-same after s _ 2 (λ i x y. elsewhere i (λ e. omega arith) (λ a b. other (omega arith)) (λ a b. omega arith)))
      (λ i x y.
      elsewhere i (λ e. omega arith) (λ a b. omega arith)
      (λ a b.
      ⊎_elim (λ q. (let g = stretch-apart s stretched j k q l in omega arith)) (λ q. (let g = stretch-apart s stretched k j q h in omega arith)) (sides (dec_lt j k))))
    where
      sides : Dec (j < k) → (j < k) ⊎ (k < j)
      sides (yes q) = inl q
      sides (no q) = inr (let m : k ≤ j = omega arith in apart m other)
        where
          apart : k ≤ j → (j ≡ k → ⊥) → k < j
          apart m o = omega arith

  -- ---- the slot itself
  pub stepped-mark : stepped_in after k ≡ 1
  stepped-mark =
      let r = room in
      ap (λ (i : ℕ). get_or after (i + 1) 0) (record-at-same stepped-framed k)
      ∙ before-nodes (at + 1) (λ x y. omega arith)
      ∙ put_other (at + 4) (le 2 n) marked room-counted (at + 1) (λ x y. omega arith)
      ∙ get_or-set_same s (at + 1) 1 0 (omega arith)

  module _ (fits : n ≤ length_in s k) where
    -- the slot's length has two bytes
    small : n < 256 ^ 2
    small = let r = room in let m = length-few (form_in s) in let g = z.long in omega arith

    pub stepped-length : length_in after k ≡ n
    stepped-length =
        let r = room in
        let e : at + 4 ≡ at + 4 + 0 = omega arith in
        ap (λ (i : ℕ). le_at after (i + 4) 2) (record-at-same stepped-framed k)
        ∙ le_at-same after counted (at + 4) 2 (λ j x y. before-nodes j (λ a b. omega arith))
        ∙ ap (λ (i : ℕ). le_at counted i 2) e
        ∙ put-field (at + 4) (le 2 n) marked room-counted 0 2 (omega arith)
        ∙ ap (λ (x : List ℕ). le_at x 0 2) (sym (append-nil (le 2 n)))
        ∙ le_at-le [] [] 0 2 n refl
        ∙ mod-eq_of_lt small

    -- what stands from its start on
    abbrev beyond : List ℕ
    beyond = drop (node + length bytes) counted

    from_start : drop node after ≡ bytes ++ beyond
    unfolding slot_stepped
    from_start =
        let e : node ≡ node + 0 = omega arith in
        ap (λ (i : ℕ). drop i after) e ∙ put-run node bytes counted room-nodes 0

    pub stepped-bytes : slot_bytes after k ≡ take n bytes
    stepped-bytes =
        let e : nodes_from after + start_in after k ≡ node = (let a = nodes-from-same stepped-framed in let b = stepped-framed.start k l in omega arith) in
        ap₂ (λ (i j : ℕ). take i (drop j after)) stepped-length e ∙ ap (take n) from_start ∙ take-append-le n bytes beyond (omega arith)

    -- where the slot filled its stretch, and what was put ends in zeros
    pub stepped-gap : start_in s k + length_in s k ≡ stretch_end s k → all_zero (drop n bytes) ≡ true → gap_ok after k ≡ true
    unfolding gap_ok
    stepped-gap fills zeros =
        let gap = length_in s k - n in
        let width : stretch_end after k - (start_in after k + length_in after k) ≡ gap = omega (arith, end_same stepped-framed k, stepped-framed.start k l, stepped-length) in
        let from : nodes_from after + (start_in after k + length_in after k) ≡ node + n = omega (arith, nodes-from-same stepped-framed, stepped-framed.start k l, stepped-length) in
        let back : drop (node + n) after ≡ drop n bytes ++ beyond = sym (drop-drop n node after) ∙ ap (drop n) from_start ∙ drop-append-le n bytes beyond (omega arith) in
        let rest : take gap (drop (node + n) after) ≡ drop n bytes = ap (take gap) back ∙ take_at (drop n bytes) beyond gap (omega (arith, length-drop n bytes)) in
        ap₂ (λ (i j : ℕ). all_zero (take i (drop j after))) width from ∙ ap all_zero rest ∙ zeros
