-- The boards' records as they are written, one after the other: the mask of each, no sample, not sampled. Assumes nothing.
use mathlib.Core.Path.{◌≡◌, sym, ap, ap₂, ◌∙◌}
use mathlib.Core.List.{List, [], ◌∷◌, ◌++◌, append_assoc}
use Prim.Native.Nat.{ℕ, zero, suc, ◌+◌, ◌-◌, ◌*◌, ◌^◌, ◌<◌}
use native.Mathlib.Omega.{arith}
use lib.ListN.{length, get_or, replicate}
use lib.Seq.{get_or-append-add}
use Rattle.le.specs.Le.{le, le_at}
use Rattle.le.proofs.Laws.{le-length, le_at-behind}
use Rattle.state.specs.declared.Form.{Form}
use Rattle.state.specs.Form.{board_row}
use Rattle.state.specs.Bytes.{board_record, board_records}
use Rattle.state.proofs.Forms.{row_room, row_next, row_first}
use Rattle.state.proofs.Putting.{board-length}
use Rattle.state.proofs.Numbers.{skip, field, zero-byte, zero-bytes}

-- ---- the fields of record i in a row of boards' records, with anything behind
module _ (φ : Form) (rest : List ℕ) where
  abbrev row : List ℕ → List ℕ
  row ms = board_records φ ms ++ rest

  -- a record, and the others behind it
  row_cons : (m : ℕ) (ms : List ℕ) → row (m ∷ ms) ≡ board_record φ m ++ row ms
  row_cons m ms = append_assoc (board_record φ m) (board_records φ ms) rest

  row_on : (m : ℕ) (ms : List ℕ) (at n : ℕ) → le_at (row (m ∷ ms)) (board_row φ + at) n ≡ le_at (row ms) at n
  row_on m ms at n =
      ap₂ (λ (x : List ℕ) (i : ℕ). le_at x (i + at) n) (row_cons m ms) (sym (board-length φ m)) ∙ le_at-behind (board_record φ m) (row ms) at n

  row-on-byte : (m : ℕ) (ms : List ℕ) (at : ℕ) → get_or (row (m ∷ ms)) (board_row φ + at) 0 ≡ get_or (row ms) at 0
  row-on-byte m ms at =
      ap₂ (λ (x : List ℕ) (i : ℕ). get_or x (i + at) 0) (row_cons m ms) (sym (board-length φ m)) ∙ get_or-append-add (board_record φ m) (row ms) at 0

  -- the first record: the mask, and zeros behind it
  first : (m : ℕ) (ms : List ℕ) → row (m ∷ ms) ≡ le 8 m ++ (replicate (board_row φ - 8) 0 ++ row ms)
  first m ms = row_cons m ms ∙ append_assoc (le 8 m) (replicate (board_row φ - 8) 0) (row ms)

  -- ---- field by field
  module _ (at : ℕ) where
    -- one record further
    further : (i : ℕ) → board_row φ * suc i + at ≡ board_row φ + (board_row φ * i + at)
    further i = omega (arith, row_next φ i)

  pub row-mask : (ms : List ℕ) (i : ℕ) → i < length ms → get_or ms i 0 < 256 ^ 8 → le_at (row ms) (board_row φ * i) 8 ≡ get_or ms i 0
  row-mask [] i l h = absurd (omega arith)
  row-mask (m ∷ ms) zero l h =
      ap₂ (λ (x : List ℕ) (i : ℕ). le_at x i 8) (first m ms) (row_first φ) ∙ field 8 m (replicate (board_row φ - 8) 0 ++ row ms) h
  row-mask (m ∷ ms) (suc i) l h =
      ap (λ (j : ℕ). le_at (row (m ∷ ms)) j 8) (row_next φ i) ∙ row_on m ms (board_row φ * i) 8 ∙ row-mask ms i (omega arith) h

  pub row-sample : (ms : List ℕ) (i : ℕ) → i < length ms → le_at (row ms) (board_row φ * i + 8) 8 ≡ 0
  row-sample [] i l = absurd (omega arith)
  row-sample (m ∷ ms) zero l =
      ap₂ (λ (x : List ℕ) (i : ℕ). le_at x (i + 8) 8) (first m ms) (row_first φ) ∙ skip 8 m (replicate (board_row φ - 8) 0 ++ row ms) 0 8
      ∙ zero-bytes 8 (board_row φ - 8) (row ms) (omega (arith, row_room φ))
  row-sample (m ∷ ms) (suc i) l =
      ap (λ (j : ℕ). le_at (row (m ∷ ms)) j 8) (further 8 i) ∙ row_on m ms (board_row φ * i + 8) 8 ∙ row-sample ms i (omega arith)

  pub row-sampled : (ms : List ℕ) (i : ℕ) → i < length ms → get_or (row ms) (board_row φ * i + 16) 0 ≡ 0
  row-sampled [] i l = absurd (omega arith)
  row-sampled (m ∷ ms) zero l =
      let e : board_row φ * 0 + 16 ≡ length (le 8 m) + 8 = omega (arith, row_first φ, le-length 8 m) in
      ap₂ (λ (x : List ℕ) (i : ℕ). get_or x i 0) (first m ms) e ∙ get_or-append-add (le 8 m) (replicate (board_row φ - 8) 0 ++ row ms) 8 0
      ∙ zero-byte 8 (board_row φ - 8) (row ms) (omega (arith, row_room φ))
  row-sampled (m ∷ ms) (suc i) l =
      ap (λ (j : ℕ). get_or (row (m ∷ ms)) j 0) (further 16 i) ∙ row-on-byte m ms (board_row φ * i + 16) ∙ row-sampled ms i (omega arith)
