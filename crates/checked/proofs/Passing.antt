-- What a state that passes its check is, as facts on numbers and formulas: `passing`. Others use it and its records: `Passing` of the
-- whole state, `HeaderPassing` of its counts, `BoardPassing` of a board, `SlotPassing` of a slot, whose formula is `formula_at s k`.
-- `passing-sized` has the counts in range, `passing-stretched` each slot in its stretch. Assumes nothing.
use mathlib.Core.Path.{◌≡◌, refl, sym, ap, ◌∙◌}
use mathlib.Core.Bool.{Bool, true, false, not}
use mathlib.Core.List.{List}
use mathlib.Core.Option.{Option, none, some}
use Prim.Native.Nat.{ℕ, ◌+◌, ◌<◌, ◌≤◌}
use native.Mathlib.Omega.{arith}
use lib.ListN.{length}
use lib.Dec.{ltb, eqb}
use borrow.Author.Tests.{ltb-true, leb-true, eqb-true, ne_eqb, eq-eqb, not-true}
use Rattle.limits.specs.Limits.{boards_most, propositions_most}
use Rattle.lists.specs.Tests.{pick, both}
use Rattle.lists.proofs.Tests.{no_true, both-0, both-1, either-elim}
use Rattle.ltl.specs.Decode.{some_formula}
use Rattle.ltl.specs.Formula.{Formula, size, encode, Within, Coded}
use Rattle.ltl.proofs.Decoding.{length-encode, decoded-is, over-within}
use Rattle.masks.specs.Masks.{sum_ones, masks_rule}
use Rattle.network.specs.Tick.{holds_only}
use Rattle.state.specs.declared.Counts.{Counts}
use Rattle.state.specs.Form.{form_in, slots_most, nodes_most, slots_at, Formed}
use Rattle.state.specs.Fields.{boards_in, slots_in, nodes_in, nodes_from, mask_in, sample_in, sampled_in, masks_in, board_of_in, stepped_in, start_in, length_in, stretch_end, slot_bytes, formula_in}
use Rattle.state.specs.Clauses.{in_mask, tidy, unfolded_own, lone_other, distinct, is_constant_in, board_ok, record_ok, stepped_ok, formula_ok, gap_ok, holders_in, header_ok, masks_ok, rest_ok, state_ok}
use Rattle.state.specs.Bytes.{formula_at}
use Rattle.state.specs.Counted.{Sized, InStretch}
use Rattle.state.proofs.Places.{bytes-length}
use Rattle.records.proofs.Each.{one-true, each_at, range-most, range-some}
use Rattle.records.proofs.Stretched.{in-stretch}
use Rattle.checked.proofs.Checked.{checked}

-- ---- the header and the masks
pub record HeaderPassing (s : List ℕ) : Type 0 where
  pub some-boards : 1 ≤ boards_in s
  pub few-boards : boards_in s ≤ boards_most
  pub some-slots : 1 ≤ slots_in s
  pub few-slots : slots_in s ≤ slots_most (form_in s)
  pub some-nodes : 1 ≤ nodes_in s
  pub few-nodes : nodes_in s ≤ nodes_most (form_in s)

header-passing : (s : List ℕ) → header_ok s ≡ true → HeaderPassing s
unfolding header_ok
header-passing s ok =
    record {
      some-boards = range-some boards_most (boards_in s) (one-true _ 0 ok);
      few-boards = range-most boards_most (boards_in s) (one-true _ 0 ok);
      some-slots = range-some (slots_most (form_in s)) (slots_in s) (one-true _ 1 ok);
      few-slots = range-most (slots_most (form_in s)) (slots_in s) (one-true _ 1 ok);
      some-nodes = range-some (nodes_most (form_in s)) (nodes_in s) (one-true _ 2 ok);
      few-nodes = range-most (nodes_most (form_in s)) (nodes_in s) (one-true _ 2 ok);
    }

-- the counts that the header has
abbrev pub counts_in : List ℕ → Counts
counts_in s =
    record { boards = boards_in s; slots = slots_in s; nodes = nodes_in s; records = slots_at (form_in s) (boards_in s); stretches = nodes_from s }

header-fits : (s : List ℕ) → Formed s → HeaderPassing s → Sized s (counts_in s)
header-fits s long h =
    record {
      header = record { boards-are = refl; slots-are = refl; nodes-are = refl; records-at = refl; stretches-at = refl };
      long = long;
      few-boards = h.few-boards;
      few-slots = h.few-slots;
      few-nodes = h.few-nodes;
    }

-- ---- a board
pub record BoardPassing (s : List ℕ) (i : ℕ) : Type 0 where
  pub flag : sampled_in s i ≤ 1
  pub within : in_mask (sample_in s i) (mask_in s i) ≡ true
  pub unsampled : sampled_in s i ≡ 0 → sample_in s i ≡ 0

board-passing : (s : List ℕ) (i : ℕ) → board_ok s i ≡ true → BoardPassing s i
unfolding board_ok
board-passing s i ok =
    let a1 = both-1 _ _ ok in
    record {
      flag = leb-true (sampled_in s i) 1 (both-0 _ _ ok);
      within = both-0 _ _ a1;
      unsampled = λ z. either-elim _ _ (sample_in s i ≡ 0) (λ e. absurd (omega (arith, eqb-true (sampled_in s i) 1 e))) (λ e. eqb-true (sample_in s i) 0 e) (both-1 _ _ a1);
    }

-- ---- a slot
pub record SlotPassing (s : List ℕ) (k : ℕ) : Type 0 where
  -- its record
  pub board-there : board_of_in s k < boards_in s
  pub flag : stepped_in s k ≤ 1
  pub some-length : 1 ≤ length_in s k
  pub used : start_in s k + length_in s k ≤ stretch_end s k
  pub ends : stretch_end s k ≤ nodes_in s
  pub fills : stepped_in s k ≡ 0 → start_in s k + length_in s k ≡ stretch_end s k
  pub gap : gap_ok s k ≡ true
  -- its formula
  pub reads : formula_in s k ≡ some (formula_at s k)
  pub bytes : slot_bytes s k ≡ encode (formula_at s k)
  pub length-is : length_in s k ≡ size (formula_at s k)
  pub coded : Coded (formula_at s k)
  pub within : Within (sum_ones (masks_in s)) (slots_in s) (formula_at s k)
  pub tidied : tidy (formula_at s k) ≡ true
  pub above : holds_only (λ m. ltb k m) (formula_at s k) ≡ true
  -- not stepped
  pub own : stepped_in s k ≡ 0 → unfolded_own (mask_in s (board_of_in s k)) (formula_at s k) ≡ true
  -- stepped
  pub sampled : stepped_in s k ≡ 1 → sampled_in s (board_of_in s k) ≡ 1
  pub held : stepped_in s k ≡ 1 → holds_only (λ m. both (eqb (stepped_in s m) 1) (not (is_constant_in s m))) (formula_at s k) ≡ true
  pub not-lone : stepped_in s k ≡ 1 → lone_other (mask_in s (board_of_in s k)) (formula_at s k) ≡ false

-- the whole
pub record Passing (s : List ℕ) : Type 0 where
  pub long : Formed s
  pub header : HeaderPassing s
  pub some-propositions : 1 ≤ sum_ones (masks_in s)
  pub few-propositions : sum_ones (masks_in s) ≤ propositions_most
  pub masks-rule : masks_rule (sum_ones (masks_in s)) (masks_in s) ≡ true
  pub boards : (i : ℕ) → i < boards_in s → BoardPassing s i
  pub starts : start_in s 0 ≡ 0
  pub slots : (k : ℕ) → k < slots_in s → SlotPassing s k
  pub held-once : distinct (holders_in s (slots_in s)) ≡ true
  pub rest : rest_ok s ≡ true

read_some : (s : List ℕ) (p k : ℕ) (o : Option Formula) → formula_ok s p k o ≡ true → o ≡ some (some_formula o)
read_some s p k none e = absurd (no_true e)
read_some s p k (some f) e = refl

module _ (s : List ℕ) (k : ℕ) where
  -- the marks' two cases
  abbrev marked : Bool → Bool
  marked b = pick b (stepped_ok s k (formula_at s k)) (unfolded_own (mask_in s (board_of_in s k)) (formula_at s k))

  when-not : marked (eqb (stepped_in s k) 1) ≡ true → stepped_in s k ≡ 0 → unfolded_own (mask_in s (board_of_in s k)) (formula_at s k) ≡ true
  unfolding pick
  when-not m z = ap marked (sym (ne_eqb (stepped_in s k) 1 (λ e. omega arith))) ∙ m

  when-stepped : marked (eqb (stepped_in s k) 1) ≡ true → stepped_in s k ≡ 1 → stepped_ok s k (formula_at s k) ≡ true
  unfolding pick
  when-stepped m e = ap marked (sym (eq-eqb (stepped_in s k) 1 e)) ∙ m

  module _ (sized : Sized s (counts_in s)) (stretch : InStretch s k) where
    slot-passing : record_ok s k ≡ true → formula_ok s (sum_ones (masks_in s)) k (formula_in s k) ≡ true → gap_ok s k ≡ true → SlotPassing s k
    unfolding record_ok
    slot-passing r f g =
        let r1 = both-1 _ _ r in
        let r2 = both-1 _ _ r1 in
        let r3 = both-1 _ _ r2 in
        let p = sum_ones (masks_in s) in
        let reads : formula_in s k ≡ some (formula_at s k) = read_some s p k (formula_in s k) f in
        let h : formula_ok s p k (some (formula_at s k)) ≡ true = ap (formula_ok s p k) (sym reads) ∙ f in
        let shape = both-0 _ _ h in
        let shape1 = both-1 _ _ shape in
        let m = both-1 _ _ h in
        let text = decoded-is (slot_bytes s k) (formula_at s k) reads in
        record {
          board-there = ltb-true _ _ (both-0 _ _ r);
          flag = leb-true _ _ (both-0 _ _ r1);
          some-length = leb-true _ _ (both-0 _ _ r2);
          used = stretch.used;
          ends = stretch.ends;
          fills = λ z. either-elim _ _ (start_in s k + length_in s k ≡ stretch_end s k) (λ e. absurd (omega (arith, eqb-true (stepped_in s k) 1 e))) (λ e. eqb-true _ _ e) (both-1 _ _ r3);
          gap = g;
          reads = reads;
          bytes = text.1;
          length-is = sym (bytes-length s (counts_in s) sized k stretch) ∙ ap length text.1 ∙ length-encode (formula_at s k);
          coded = text.0;
          within = over-within p (slots_in s) (formula_at s k) (both-0 _ _ shape);
          tidied = both-0 _ _ shape1;
          above = both-1 _ _ shape1;
          own = when-not m;
          sampled = λ e. eqb-true _ _ (both-0 _ _ (when-stepped m e));
          held = λ e. both-0 _ _ (both-1 _ _ (when-stepped m e));
          not-lone = λ e. not-true _ (both-1 _ _ (both-1 _ _ (when-stepped m e)));
        }

pub passing : (s : List ℕ) → state_ok s ≡ true → Passing s
unfolding masks_ok
passing s ok =
    let c = checked s ok in
    let h = header-passing s c.header in
    let m = c.masks in
    let p = sum_ones (masks_in s) in
    record {
      long = c.long;
      header = h;
      some-propositions = range-some propositions_most p (both-0 _ _ m);
      few-propositions = range-most propositions_most p (both-0 _ _ m);
      masks-rule = both-1 _ _ m;
      boards = λ i l. board-passing s i (each_at (board_ok s) (boards_in s) i c.boards l);
      starts = c.starts;
      slots = λ k l.
          slot-passing s k (header-fits s c.long h) (in-stretch s c.records k l)
          (each_at (record_ok s) (slots_in s) k c.records l)
          (each_at (λ k. formula_ok s p k (formula_in s k)) (slots_in s) k c.formulas l)
          (each_at (gap_ok s) (slots_in s) k c.gaps l);
      held-once = c.holders;
      rest = c.rest;
    }

pub passing-sized : (s : List ℕ) → state_ok s ≡ true → Sized s (counts_in s)
passing-sized s ok = let c = passing s ok in header-fits s c.long c.header

pub passing-stretched : (s : List ℕ) → state_ok s ≡ true → (k : ℕ) → k < slots_in s → InStretch s k
passing-stretched s ok k l = let x = (passing s ok).slots k l in record { used = x.used; ends = x.ends }
