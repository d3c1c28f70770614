-- A state after a sample, field by field: it touches its board's sample and flag alone (`sample-framed`, `sample-slot`), which are then
-- the bits and 1 (`sample-bits`, `sample-flag`), and those of no other board (`sample-other`, `sample-other-flag`). Assumes nothing.
use mathlib.Core.Path.{◌≡◌, refl, ap, ◌∙◌}
use mathlib.Core.List.{List, [], ◌∷◌, ◌++◌}
use mathlib.Core.Logic.{◌⊎◌, inl, inr, ⊎_elim}
use Prim.Native.Nat.{ℕ, ◌+◌, ◌^◌, ◌<◌, ◌≤◌}
use native.Mathlib.Nat.{mod-eq_of_lt}
use native.Mathlib.Decide.{ℕ_discrete, dec_lt}
use native.Mathlib.Omega.{arith}
use lib.ListN.{length, get_or, length-append}
use lib.Seq.{get_or_at}
use Rattle.le.specs.Le.{le, le_at}
use Rattle.le.proofs.Laws.{le-length, le_at-same, le_at-le}
use Rattle.state.specs.declared.Counts.{Counts}
use Rattle.state.specs.declared.Form.{Form}
use Rattle.state.specs.Form.{form_in, board_at, slots_at}
use Rattle.state.specs.Fields.{boards_in, slots_in, sample_in, sampled_in}
use Rattle.state.specs.Writes.{sample_given}
use Rattle.state.specs.Counted.{Sized, InStretch}
use Rattle.state.proofs.Forms.{row_room, board-behind, boards-apart}
use Rattle.state.proofs.Places.{board-within}
use Rattle.state.proofs.Puts.{put-length, put_byte, put_other, put-field}
use Rattle.state.proofs.Framed.{Framed, framed, form-same}
use Rattle.state.proofs.SameSlots.{SameSlot, same-slot}

module _ (s : List ℕ) {c : Counts} (z : Sized s c) (b bits : ℕ) (there : b < boards_in s) where
  abbrev after : List ℕ
  after = sample_given s b bits

  -- where the board's record is
  abbrev here : ℕ
  here = board_at (form_in s) b

  abbrev written : List ℕ
  written = le 8 bits ++ (1 ∷ [])

  written-length : length written ≡ 9
  written-length = omega (arith, length-append (le 8 bits) (1 ∷ []), le-length 8 bits)

  room : here + 8 + length written ≤ length s
  room =
      let e = z.header.boards-are in
      let f = z.few-boards in
      omega (arith, written-length, board-within s z.long b (omega arith))

  long : length after ≡ length s
  unfolding sample_given
  long = put-length (here + 8) written s room

  elsewhere : (i : ℕ) → (here + 8 ≤ i → i < here + 17 → ⊥) → get_or after i 0 ≡ get_or s i 0
  unfolding sample_given
  elsewhere i h = put_other (here + 8) written s room i (λ a c. h a (omega (arith, written-length)))

  -- behind the boards' records
  past : (i : ℕ) → slots_at (form_in s) (boards_in s) ≤ i → get_or after i 0 ≡ get_or s i 0
  past i h = elsewhere i (λ x y. omega (arith, row_room (form_in s), boards-apart (form_in s) b (boards_in s) there))

  -- another board's record
  beside : (i : ℕ) → (i ≡ b → ⊥) → (board_at (form_in s) i + 17 ≤ here) ⊎ (here + 17 ≤ board_at (form_in s) i)
  beside i other = go (dec_lt i b)
    where
      above : b ≤ i → (i ≡ b → ⊥) → b < i
      above h o = omega arith

      go : Dec (i < b) → (board_at (form_in s) i + 17 ≤ here) ⊎ (here + 17 ≤ board_at (form_in s) i)
      go (yes h) = inl (omega (arith, row_room (form_in s), boards-apart (form_in s) i b h))
      go (no h) = inr (let q = above (omega arith) other in omega (arith, row_room (form_in s), boards-apart (form_in s) b i q))

  apart : (i : ℕ) → (i ≡ b → ⊥) → (j : ℕ) → board_at (form_in s) i ≤ j → j < board_at (form_in s) i + 17 → get_or after j 0 ≡ get_or s j 0
  apart i other j x y = elsewhere j (λ u v. ⊎_elim (λ h. omega arith) (λ h. omega arith) (beside i other))

  mask-byte : (i j : ℕ) → board_at (form_in s) i ≤ j → j < board_at (form_in s) i + 8 → get_or after j 0 ≡ get_or s j 0
  mask-byte i j x y =
      elim (ℕ_discrete i b) [
        | yes e ↦ (let q = ap (board_at (form_in s)) e in elsewhere j (λ u v. omega arith))
        | no e ↦ apart i e j x (omega arith)
      ]

  -- ---- what it does not touch
  pub sample-framed : Framed s after
  sample-framed =
      framed
      (record {
        long = long;
        front = λ i l. elsewhere i (λ x y. omega (arith, board-behind (form_in s) b));
        mask = λ i l. le_at-same after s _ 8 (λ j x y. mask-byte i j x y);
        board = λ k l. past _ (omega arith);
        start = λ k l. le_at-same after s _ 2 (λ j x y. past j (omega arith));
        behind = λ i l. past i (omega arith);
      })

  pub sample-slot : (k : ℕ) → k < slots_in s → InStretch s k → SameSlot s after k
  sample-slot k l stretch =
      same-slot sample-framed k l stretch (past _ (omega arith)) (le_at-same after s _ 2 (λ j x y. past j (omega arith))) (λ i x y. past i (omega arith))

  -- a field of a board's record, by the form of the state before
  field_is : (i at n : ℕ) → le_at after (board_at (form_in after) i + at) n ≡ le_at after (board_at (form_in s) i + at) n
  field_is i at n = ap (λ (φ : Form). le_at after (board_at φ i + at) n) (form-same sample-framed)

  flag_is : (i : ℕ) → sampled_in after i ≡ get_or after (board_at (form_in s) i + 16) 0
  flag_is i = ap (λ (φ : Form). get_or after (board_at φ i + 16) 0) (form-same sample-framed)

  module _ (i : ℕ) (other : i ≡ b → ⊥) where
    pub sample-other : sample_in after i ≡ sample_in s i
    sample-other = field_is i 8 8 ∙ le_at-same after s _ 8 (λ j x y. apart i other j (omega arith) (omega arith))

    pub sample-other-flag : sampled_in after i ≡ sampled_in s i
    sample-other-flag = flag_is i ∙ apart i other _ (omega arith) (omega arith)

  -- ---- what it writes
  put-bits : le_at after (here + 8 + 0) 8 ≡ le_at written 0 8
  unfolding sample_given
  put-bits = put-field (here + 8) written s room 0 8 (omega (arith, written-length))

  put-flag : get_or after (here + 8 + 8) 0 ≡ get_or written 8 0
  unfolding sample_given
  put-flag = put_byte (here + 8) written s room 8 (omega (arith, written-length))

  pub sample-bits : bits < 2 ^ 64 → sample_in after b ≡ bits
  sample-bits few =
      let e : here + 8 ≡ here + 8 + 0 = omega arith in
      let less : bits < 256 ^ 8 = omega arith in
      field_is b 8 8 ∙ ap (λ (i : ℕ). le_at after i 8) e ∙ put-bits ∙ le_at-le [] (1 ∷ []) 0 8 bits refl ∙ mod-eq_of_lt less

  pub sample-flag : sampled_in after b ≡ 1
  sample-flag =
      let e : here + 16 ≡ here + 8 + 8 = omega arith in
      flag_is b ∙ ap (λ (i : ℕ). get_or after i 0) e ∙ put-flag ∙ get_or_at (le 8 bits) 1 [] 0 8 (le-length 8 bits)
