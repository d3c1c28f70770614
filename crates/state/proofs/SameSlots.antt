-- A slot that a call does not touch: two framed states have its mark, its length, its nodes and the gap behind them in common
-- (`SameSlot`, by `same-slot`). Assumes nothing.
use mathlib.Core.Path.{◌≡◌, ap, ap₂, ◌∙◌}
use mathlib.Core.List.{List}
use Prim.Native.Nat.{ℕ, ◌+◌, ◌-◌, ◌<◌, ◌≤◌}
use native.Mathlib.Omega.{arith}
use lib.ListN.{get_or, take, drop}
use Rattle.le.specs.Le.{le_at}
use Rattle.state.specs.Fields.{slots_in, slot_record_at, stepped_in, start_in, length_in, stretch_end, slot_bytes, nodes_from}
use Rattle.state.specs.Clauses.{all_zero, gap_ok}
use Rattle.state.specs.Counted.{InStretch}
use Rattle.state.proofs.Puts.{run-same}
use Rattle.state.proofs.Framed.{Framed, record-at-same, nodes-from-same, end_same}

pub record SameSlot (s t : List ℕ) (k : ℕ) : Type 0 where
  pub mark : stepped_in t k ≡ stepped_in s k
  pub size : length_in t k ≡ length_in s k
  pub bytes : slot_bytes t k ≡ slot_bytes s k
  pub gap : gap_ok t k ≡ gap_ok s k

module _ {s t : List ℕ} (f : Framed s t) (k : ℕ) (l : k < slots_in s) (stretch : InStretch s k) where
  pub same-slot : get_or t (slot_record_at s k + 1) 0 ≡ stepped_in s k → le_at t (slot_record_at s k + 4) 2 ≡ length_in s k
      → ((i : ℕ) → nodes_from s + start_in s k ≤ i → i < nodes_from s + stretch_end s k → get_or t i 0 ≡ get_or s i 0) → SameSlot s t k
  unfolding gap_ok
  same-slot mark size nodes =
      let at = nodes_from s in
      let used = stretch.used in
      let n : length_in t k ≡ length_in s k = ap (λ (i : ℕ). le_at t (i + 4) 2) (record-at-same f k) ∙ size in
      let start = f.start k l in
      let from = nodes-from-same f in
      let first : nodes_from t + start_in t k ≡ at + start_in s k = ap₂ ◌+◌ from start in
      let last : nodes_from t + (start_in t k + length_in t k) ≡ at + (start_in s k + length_in s k) = ap₂ ◌+◌ from (ap₂ ◌+◌ start n) in
      let room : stretch_end t k - (start_in t k + length_in t k) ≡ stretch_end s k - (start_in s k + length_in s k) = ap₂ ◌-◌ (end_same f k) (ap₂ ◌+◌ start n) in
      record {
        mark = ap (λ (i : ℕ). get_or t (i + 1) 0) (record-at-same f k) ∙ mark;
        size = n;
        bytes = ap₂ (λ (i j : ℕ). take i (drop j t)) n first ∙ run-same s t (at + start_in s k) (length_in s k) f.long (λ i a b. nodes i a (omega arith));
        gap = ap₂ (λ (i j : ℕ). all_zero (take i (drop j t))) room last
            ∙ ap all_zero (run-same s t (at + (start_in s k + length_in s k)) (stretch_end s k - (start_in s k + length_in s k)) f.long (λ i a b. nodes i (omega arith) (omega arith)));
      }
