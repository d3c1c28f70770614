-- The slots' records as they are written, one after the other, and the nodes behind them: the board, the mark, the start and the length
-- of each (`row-board` and its like), and its nodes (`nodes-of`). Assumes nothing.
use mathlib.Core.Path.{◌≡◌, refl, sym, ap, ap₂, ◌∙◌}
use mathlib.Core.List.{List, [], ◌∷◌, ◌++◌, append_assoc}
use Prim.Native.Nat.{ℕ, zero, suc, ◌+◌, ◌*◌, ◌<◌}
use native.Mathlib.Omega.{arith}
use lib.ListN.{length, get_or, take, drop, length-append}
use lib.Seq.{take_at, drop_at, drop-drop, get_or-append-add}
use Rattle.le.specs.Le.{le, le_at}
use Rattle.le.proofs.Laws.{le_at-behind}
use Rattle.ltl.specs.Formula.{size, encode}
use Rattle.ltl.proofs.Decoding.{length-encode}
use Rattle.network.specs.Layout.{Slot, slot_at}
use Rattle.state.specs.Form.{slot_rows}
use Rattle.state.specs.Bytes.{nodes_of, slot_record, slot_records, node_bytes}
use Rattle.state.proofs.Numbers.{skip, field}
use Rattle.state.proofs.Putting.{slot-length}

records-cons : (start : ℕ) (s : Slot) (ss : List Slot) (rest : List ℕ)
    → slot_records start (s ∷ ss) ++ rest ≡ slot_record s.board start (size s.formula) ++ (slot_records (start + size s.formula) ss ++ rest)
records-cons start s ss rest = append_assoc (slot_record s.board start (size s.formula)) (slot_records (start + size s.formula) ss) rest

-- ---- lengths
pub records-length : (start : ℕ) (ss : List Slot) → length (slot_records start ss) ≡ slot_rows (length ss)
records-length start [] = refl
records-length start (s ∷ ss) =
    omega (
      arith,
      length-append (slot_record s.board start (size s.formula)) (slot_records (start + size s.formula) ss),
      slot-length s.board start (size s.formula),
      records-length (start + size s.formula) ss,
    )

pub nodes-length : (ss : List Slot) → length (node_bytes ss) ≡ nodes_of ss
nodes-length [] = refl
nodes-length (s ∷ ss) = omega (arith, length-append (encode s.formula) (node_bytes ss), length-encode s.formula, nodes-length ss)

-- ---- where a slot's nodes begin
unfoldable pub start_of : List Slot → ℕ → ℕ
start_of [] k = 0
start_of (s ∷ ss) zero = 0
start_of (s ∷ ss) (suc k) = size s.formula + start_of ss k

-- ---- the fields of record k in a row of records, with anything behind
module _ (rest : List ℕ) where
  unfoldable pub row : ℕ → List Slot → List ℕ
  row start ss = slot_records start ss ++ rest

  row_on : (start : ℕ) (s : Slot) (ss : List Slot) (at n : ℕ) → le_at (row start (s ∷ ss)) (6 + at) n ≡ le_at (row (start + size s.formula) ss) at n
  unfolding row
  row_on start s ss at n =
      ap₂ (λ (x : List ℕ) (i : ℕ). le_at x (i + at) n) (records-cons start s ss rest) (sym (slot-length s.board start (size s.formula)))
      ∙ le_at-behind (slot_record s.board start (size s.formula)) (slot_records (start + size s.formula) ss ++ rest) at n

  row-on-byte : (start : ℕ) (s : Slot) (ss : List Slot) (at : ℕ) → get_or (row start (s ∷ ss)) (6 + at) 0 ≡ get_or (row (start + size s.formula) ss) at 0
  unfolding row
  row-on-byte start s ss at =
      ap₂ (λ (x : List ℕ) (i : ℕ). get_or x (i + at) 0) (records-cons start s ss rest) (sym (slot-length s.board start (size s.formula)))
      ∙ get_or-append-add (slot_record s.board start (size s.formula)) (slot_records (start + size s.formula) ss ++ rest) at 0

  -- the first record
  first : (start : ℕ) (s : Slot) (ss : List Slot) → row start (s ∷ ss) ≡ s.board ∷ 0 ∷ (le 2 start ++ (le 2 (size s.formula) ++ (slot_records (start + size s.formula) ss ++ rest)))
  unfolding row
  first start s ss =
      records-cons start s ss rest
      ∙ ap (λ (x : List ℕ). s.board ∷ 0 ∷ x) (append_assoc (le 2 start) (le 2 (size s.formula)) (slot_records (start + size s.formula) ss ++ rest))

  pub row-board : (start : ℕ) (ss : List Slot) (k : ℕ) → k < length ss → get_or (row start ss) (6 * k) 0 ≡ (slot_at ss k).board
  row-board start [] k l = absurd (omega arith)
  row-board start (s ∷ ss) zero l = ap (λ (x : List ℕ). get_or x 0 0) (first start s ss)
  row-board start (s ∷ ss) (suc k) l =
      let e : 6 * suc k ≡ 6 + 6 * k = omega arith in
      ap (λ (i : ℕ). get_or (row start (s ∷ ss)) i 0) e ∙ row-on-byte start s ss (6 * k) ∙ row-board (start + size s.formula) ss k (omega arith)

  pub row-mark : (start : ℕ) (ss : List Slot) (k : ℕ) → k < length ss → get_or (row start ss) (6 * k + 1) 0 ≡ 0
  row-mark start [] k l = absurd (omega arith)
  row-mark start (s ∷ ss) zero l = ap (λ (x : List ℕ). get_or x 1 0) (first start s ss)
  row-mark start (s ∷ ss) (suc k) l =
      let e : 6 * suc k + 1 ≡ 6 + (6 * k + 1) = omega arith in
      ap (λ (i : ℕ). get_or (row start (s ∷ ss)) i 0) e ∙ row-on-byte start s ss (6 * k + 1) ∙ row-mark (start + size s.formula) ss k (omega arith)

  pub row-start : (start : ℕ) (ss : List Slot) (k : ℕ) → k < length ss → start + nodes_of ss < 65536 → le_at (row start ss) (6 * k + 2) 2 ≡ start + start_of ss k
  unfolding start_of
  row-start start [] k l h = absurd (omega arith)
  row-start start (s ∷ ss) zero l h =
      let x = le 2 (size s.formula) ++ (slot_records (start + size s.formula) ss ++ rest) in
      ap (λ (y : List ℕ). le_at y 2 2) (first start s ss) ∙ le_at-behind (s.board ∷ 0 ∷ []) (le 2 start ++ x) 0 2 ∙ field 2 start x (omega arith) ∙ omega arith
  row-start start (s ∷ ss) (suc k) l h =
      let e : 6 * suc k + 2 ≡ 6 + (6 * k + 2) = omega arith in
      ap (λ (i : ℕ). le_at (row start (s ∷ ss)) i 2) e ∙ row_on start s ss (6 * k + 2) 2 ∙ row-start (start + size s.formula) ss k (omega arith) (omega arith) ∙ omega arith

  pub row-length : (start : ℕ) (ss : List Slot) (k : ℕ) → k < length ss → nodes_of ss < 65536 → le_at (row start ss) (6 * k + 4) 2 ≡ size (slot_at ss k).formula
  row-length start [] k l h = absurd (omega arith)
  row-length start (s ∷ ss) zero l h =
      let x = slot_records (start + size s.formula) ss ++ rest in
      ap (λ (y : List ℕ). le_at y 4 2) (first start s ss) ∙ le_at-behind (s.board ∷ 0 ∷ []) (le 2 start ++ (le 2 (size s.formula) ++ x)) 2 2
      ∙ skip 2 start (le 2 (size s.formula) ++ x) 0 2 ∙ field 2 (size s.formula) x (omega arith)
  row-length start (s ∷ ss) (suc k) l h =
      let e : 6 * suc k + 4 ≡ 6 + (6 * k + 4) = omega arith in
      ap (λ (i : ℕ). le_at (row start (s ∷ ss)) i 2) e ∙ row_on start s ss (6 * k + 4) 2 ∙ row-length (start + size s.formula) ss k (omega arith) (omega arith)

-- ---- the nodes of slot k
pub nodes-of : (ss : List Slot) (rest : List ℕ) (k : ℕ) → k < length ss → take (size (slot_at ss k).formula) (drop (start_of ss k) (node_bytes ss ++ rest)) ≡ encode (slot_at ss k).formula
unfolding start_of
nodes-of [] rest k l = absurd (omega arith)
nodes-of (s ∷ ss) rest zero l =
    ap (take (size s.formula)) (append_assoc (encode s.formula) (node_bytes ss) rest) ∙ take_at (encode s.formula) (node_bytes ss ++ rest) (size s.formula) (length-encode s.formula)
nodes-of (s ∷ ss) rest (suc k) l =
    let f = s.formula in
    let d : drop (size f + start_of ss k) (node_bytes (s ∷ ss) ++ rest) ≡ drop (start_of ss k) (node_bytes ss ++ rest) =
    sym (drop-drop (start_of ss k) (size f) (node_bytes (s ∷ ss) ++ rest))
    ∙ ap (drop (start_of ss k)) (ap (drop (size f)) (append_assoc (encode f) (node_bytes ss) rest) ∙ drop_at (encode f) (node_bytes ss ++ rest) (size f) (length-encode f)) in
    ap (take (size (slot_at ss k).formula)) d ∙ nodes-of ss rest k (omega arith)
