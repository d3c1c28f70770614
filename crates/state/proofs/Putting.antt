-- What is put into a state's records: a sample (`sample-put`), the boards' records (`board-put`, `boards-more`), the
-- header with them (`front-put`), and a slot's record (`record-put`). Assumes nothing.
use mathlib.Core.Path.{◌≡◌, refl, sym, ap, ap₂, ◌∙◌}
use mathlib.Core.List.{List, [], ◌∷◌, ◌++◌, append_assoc, append-nil}
use Prim.Native.Nat.{ℕ, suc, ◌+◌, ◌-◌, ◌*◌, ◌<◌, ◌≤◌}
use native.Mathlib.Numerals.{add-one}
use native.Mathlib.Omega.{arith}
use lib.ListN.{length, get_or, take, drop, set, replicate, length-append, length-drop, length-replicate}
use lib.Seq.{drop-cons, set_at, take-suc, drop-drop, length-take-le}
use Rattle.lists.specs.Runs.{tail, tail_as}
use Rattle.lists.proofs.Stretches.{put_next, put-more}
use Rattle.le.specs.Le.{le}
use Rattle.le.proofs.Laws.{le-length}
use Rattle.state.specs.declared.Form.{Form}
use Rattle.state.specs.Form.{board_row, boards_at, board_at, slot_row}
use Rattle.state.specs.Bytes.{state_header, board_record, board_records, slot_record}
use Rattle.state.specs.Writes.{put_at}
use Rattle.state.proofs.Forms.{row_room, row_next}

-- ---- lengths
pub header-length : (φ : Form) (b s n ticks : ℕ) → length (state_header φ b s n ticks) ≡ boards_at
unfolding le
header-length φ b s n ticks = refl

pub board-length : (φ : Form) (m : ℕ) → length (board_record φ m) ≡ board_row φ
board-length φ m =
    omega (arith, row_room φ, length-append (le 8 m) (replicate (board_row φ - 8) 0), le-length 8 m, length-replicate {A = ℕ} (board_row φ - 8) 0)

pub boards-length : (φ : Form) (ms : List ℕ) → length (board_records φ ms) ≡ board_row φ * length ms
boards-length φ [] = no_rows φ
  where
    no_rows : (φ : Form) → 0 ≡ board_row φ * 0
    no_rows φ = omega arith
boards-length φ (m ∷ ms) = omega (arith, length-append (board_record φ m) (board_records φ ms), board-length φ m, boards-length φ ms, row_next φ (length ms))

pub slot-length : (board start n : ℕ) → length (slot_record board start n) ≡ slot_row
slot-length board start n = omega (arith, length-append (le 2 start) (le 2 n), le-length 2 start, le-length 2 n)

-- ---- the sample put into a board's record, and then its flag
pub sample-put : (s : List ℕ) (at bits : ℕ) → at + 9 ≤ length s
    → set (take at s ++ (le 8 bits ++ drop (at + 8) s)) (at + 8) 1 ≡ put_at at (le 8 bits ++ (1 ∷ [])) s
sample-put s at bits h =
    let sample = le 8 bits in
    let l = le-length 8 bits in
    let a : length (take at s ++ sample) ≡ at + 8 = omega (arith, length-append (take at s) sample, length-take-le at s (omega arith)) in
    let d : at + length (sample ++ (1 ∷ [])) ≡ suc (at + 8) = omega (arith, length-append sample (1 ∷ [])) in
    ap (λ (x : List ℕ). set x (at + 8) 1) (sym (append_assoc (take at s) sample (drop (at + 8) s)) ∙ ap (λ (x : List ℕ). (take at s ++ sample) ++ x) (drop-cons s (at + 8) 0 (omega arith)))
    ∙ set_at (take at s ++ sample) (get_or s (at + 8) 0) (drop (suc (at + 8)) s) 1 (at + 8) a
    ∙ append_assoc (take at s) sample (1 ∷ drop (suc (at + 8)) s)
    ∙ ap (λ (x : List ℕ). take at s ++ x) (sym (append_assoc sample (1 ∷ []) (drop (suc (at + 8)) s)))
    ∙ ap (λ (i : ℕ). take at s ++ ((sample ++ (1 ∷ [])) ++ drop i s)) (sym d)

-- ---- a board's record: a mask, and zeros behind it
pub board-put : (φ : Form) (mask : ℕ) (out s z : List ℕ) (n : ℕ) → n ≡ board_row φ - 8 → board_row φ ≤ length out → s ≡ le 8 mask ++ drop 8 out → length s ≡ length out
    → z ≡ replicate (length (take n (drop 8 s))) 0
    → take 8 s ++ (z ++ drop n (drop 8 s)) ≡ board_record φ mask ++ drop (board_row φ) out
board-put φ mask out s z n row l e long k =
    let r = row_room φ in
    let m : length (take n (drop 8 s)) ≡ n = length-take-le n (drop 8 s) (let d = length-drop 8 s in omega arith) in
    let end : 8 + n ≡ board_row φ = omega arith in
    ap₂ (λ (x y : List ℕ). take 8 s ++ (x ++ y)) (k ∙ ap (λ (i : ℕ). replicate {A = ℕ} i 0) m) (drop-drop n 8 s)
    ∙ put_next s out (le 8 mask) (replicate n 0) 8 n e (le-length 8 mask)
    ∙ ap₂ (λ (i j : ℕ). (le 8 mask ++ replicate {A = ℕ} i 0) ++ drop j out) row end

records-append : (φ : Form) (ms ns : List ℕ) → board_records φ (ms ++ ns) ≡ board_records φ ms ++ board_records φ ns
records-append φ [] ns = refl
records-append φ (m ∷ ms) ns = ap (board_record φ m ++◌) (records-append φ ms ns) ∙ sym (append_assoc (board_record φ m) (board_records φ ms) (board_records φ ns))

-- the records of the first i boards, and the next one behind them
module _ (φ : Form) (ms out s : List ℕ) (i : ℕ) (so_far : s ≡ board_records φ (take i ms) ++ drop (board_row φ * i) out) where
  pub boards-more : i < length ms → (at : ℕ) (x : List ℕ) → at ≡ board_row φ * i → x ≡ board_record φ (get_or ms i 0) ++ drop (board_row φ) (tail at s)
      → tail_as at s x ≡ board_records φ (take (i + 1) ms) ++ drop (board_row φ * (i + 1)) out
  boards-more h at x p e =
      let here = board_row φ * i in
      let n : length (board_records φ (take i ms)) ≡ here = boards-length φ (take i ms) ∙ ap (board_row φ *◌) (length-take-le i ms (omega arith)) in
      let next : here + board_row φ ≡ board_row φ * (i + 1) = omega (arith, row_next φ i) ∙ ap (board_row φ *◌) (sym (add-one i)) in
      let one_more : board_records φ (take i ms) ++ board_record φ (get_or ms i 0) ≡ board_records φ (take (i + 1) ms) =
      ap (board_records φ (take i ms) ++◌) (sym (append-nil (board_record φ (get_or ms i 0))))
      ∙ sym (records-append φ (take i ms) (get_or ms i 0 ∷ []))
      ∙ ap (board_records φ) (sym (ap (λ (k : ℕ). take k ms) (add-one i) ∙ take-suc ms i 0 h)) in
      ap (λ (j : ℕ). tail_as j s x) p ∙ put-more out s (board_records φ (take i ms)) (board_record φ (get_or ms i 0)) x here (board_row φ) n so_far (e ∙ ap (λ (j : ℕ). board_record φ (get_or ms i 0) ++ drop (board_row φ) (tail j s)) p) ∙ ap₂ (λ (u : List ℕ) (j : ℕ). u ++ drop j out) one_more next

-- ---- the header, and the boards' records behind it
pub front-put : (φ : Form) (masks s t x : List ℕ) (slots nodes ticks : ℕ) → t ≡ state_header φ (length masks) slots nodes ticks ++ drop boards_at s
    → x ≡ board_records φ masks ++ drop (board_row φ * length masks) (tail boards_at t)
    → tail_as boards_at t x ≡ (state_header φ (length masks) slots nodes ticks ++ board_records φ masks) ++ drop (board_at φ (length masks)) s
unfolding board_at
front-put φ masks s t x slots nodes ticks e f =
    put-more s t (state_header φ (length masks) slots nodes ticks) (board_records φ masks) x boards_at (board_row φ * length masks) (header-length φ (length masks) slots nodes ticks) e f

-- ---- a slot's record: four puts in a row
row-begun : (r : List ℕ) (board : ℕ) → slot_row ≤ length r → set (set r 0 board) 1 0 ≡ (board ∷ 0 ∷ []) ++ drop 2 r
row-begun [] board l = absurd (omega arith)
row-begun (x ∷ []) board l = absurd (omega arith)
row-begun (x ∷ y ∷ r) board l = refl

pub record-put : (r : List ℕ) {s t : List ℕ} (board start n : ℕ) → slot_row ≤ length r → s ≡ take 2 (set (set r 0 board) 1 0) ++ (le 2 start ++ drop 4 (set (set r 0 board) 1 0))
    → t ≡ take 4 s ++ (le 2 n ++ drop 6 s) → t ≡ slot_record board start n ++ drop slot_row r
record-put r {s} board start n l e f =
    let A = board ∷ 0 ∷ [] in
    let first : s ≡ (A ++ le 2 start) ++ drop 4 r = e ∙ put_next (set (set r 0 board) 1 0) r A (le 2 start) 2 2 (row-begun r board l) refl in
    f ∙ put_next s r (A ++ le 2 start) (le 2 n) 4 2 first (let i = le-length 2 start in omega arith)
