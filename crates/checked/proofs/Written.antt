-- A network that is written as a state passes the state check, where its masks follow their rule, its slots are `SlotFitting`, each is
-- held at most once, and it is within the limits: `written-passes`. Assumes nothing.
use mathlib.Core.Path.{◌≡◌, refl, sym, ap, ap₂, ◌∙◌}
use mathlib.Core.Bool.{Bool, true}
use mathlib.Core.List.{List, [], ◌∷◌}
use mathlib.Core.Option.{Option}
use Prim.Native.Nat.{ℕ, ◌+◌, ◌-◌, ◌^◌, ◌<◌, ◌≤◌}
use native.Mathlib.Nat.{lt_of_lt_of_le}
use native.Mathlib.Omega.{arith}
use lib.ListN.{length, get_or, take, drop}
use lib.Pow.{pow_mono}
use lib.Dec.{ltb}
use lib.Bits.{bit_and, and_zero_l}
use borrow.Author.Tests.{eqb-true, eq-eqb, le-leb, lt-ltb}
use Rattle.limits.specs.Limits.{boards_most, propositions_most, holder_codes}
use Rattle.lists.specs.Tests.{either, in_range}
use Rattle.lists.proofs.Tests.{both_true, either-right, pick-elim}
use Rattle.ltl.specs.Formula.{Formula, Coded}
use Rattle.ltl.proofs.Decoding.{size-some, within-over, wider}
use Rattle.masks.specs.Masks.{sum_ones, masks_rule}
use Rattle.masks.proofs.Exact.{rule-sum, rule-less}
use Rattle.network.specs.Layout.{Slot, slot_at}
use Rattle.network.proofs.Holding.{holds-map}
use Rattle.network.proofs.Numbers.{times_held}
use Rattle.state.specs.declared.Form.{Form}
use Rattle.state.specs.Form.{form_in, state_length, slots_most, nodes_most, boards_at, slots_at}
use Rattle.state.specs.Fields.{boards_in, slots_in, nodes_in, boards_offset_in, slots_offset_in, nodes_offset_in, nodes_from, mask_in, sample_in, sampled_in, masks_in, board_of_in, stepped_in, start_in, length_in, stretch_end, formula_in}
use Rattle.state.specs.Clauses.{each_true, all_zero, unfolded_own, board_ok, record_ok, formula_ok, gap_ok, holders_in, places_ok, header_ok, masks_ok, state_ok}
use Rattle.state.specs.Bytes.{nodes_of, state_of}
use Rattle.state.proofs.Forms.{slots-coded}
use Rattle.state.proofs.SlotRows.{start_of}
use Rattle.state.proofs.Parts.{state-length, reads-form}
use Rattle.state.proofs.Reading.{reads-boards, reads-slots, reads-nodes, reads-board, reads-mark, reads-start, reads-length, reads-formula}
use Rattle.state.proofs.Fresh.{reads-boards-offset, reads-slots-offset, reads-nodes-offset, reads-mask, reads-sample, reads-sampled, reads-masks, reads_end, reads-rest}
use Rattle.checked.proofs.Checked.{checked-of, each_of}
use Rattle.checked.proofs.Tidy.{tidy-only}
use Rattle.checked.proofs.Fitting.{SlotFitting}
use Rattle.checked.proofs.Holders.{times, distinct_of, holders-times}

-- ---- small tests
range-of : (most n : ℕ) → 1 ≤ n → n ≤ most → in_range most n ≡ true
range-of most n l m = both_true _ _ (le-leb 1 n l) (le-leb n most m)

either-of : (a b : Bool) → b ≡ true → either a b ≡ true
either-of a b e = ap (either a) e ∙ either-right a

start-zero : (ss : List Slot) → start_of ss 0 ≡ 0
unfolding start_of
start-zero [] = refl
start-zero (s ∷ ss) = refl

nodes-some : (ss : List Slot) → 1 ≤ length ss → 1 ≤ nodes_of ss
nodes-some [] l = absurd (omega arith)
nodes-some (s ∷ ss) l = omega (arith, size-some s.formula)

-- ---- a network within the limits, for masks that follow their rule
module _ (φ : Form) (p : ℕ) (masks : List ℕ) (rule : masks_rule p masks ≡ true) (some-propositions : 1 ≤ p) (few-propositions : p ≤ propositions_most)
    (some-boards : 1 ≤ length masks) (few-boards : length masks ≤ boards_most) (slots : List Slot) (some-slots : 1 ≤ length slots) (few-slots : length slots ≤ slots_most φ)
    (few-nodes : nodes_of slots ≤ nodes_most φ) (fits : (k : ℕ) → k < length slots → SlotFitting p masks (length slots) k (slot_at slots k)) (ticks : ℕ) where
  abbrev state : List ℕ
  state = state_of φ masks slots ticks

  coded : (k : ℕ) → k < length slots → Coded (slot_at slots k).formula
  coded k l = wider p (length slots) propositions_most holder_codes few-propositions (omega (arith, slots-coded φ)) (slot_at slots k).formula (fits k l).within

  boards-are : boards_in state ≡ length masks
  boards-are = reads-boards φ masks slots ticks few-boards few-slots few-nodes coded

  slots-are : slots_in state ≡ length slots
  slots-are = reads-slots φ masks slots ticks few-boards few-slots few-nodes coded

  nodes-are : nodes_in state ≡ nodes_of slots
  nodes-are = reads-nodes φ masks slots ticks few-boards few-slots few-nodes coded

  mask-less : (i : ℕ) → i < length masks → get_or masks i 0 < 2 ^ 64
  mask-less i l = lt_of_lt_of_le (rule-less p masks rule i l) (pow_mono few-propositions)

  masks-are : masks_in state ≡ masks
  masks-are = reads-masks φ masks slots ticks few-boards few-slots few-nodes coded mask-less

  ones-are : sum_ones (masks_in state) ≡ p
  ones-are = ap sum_ones masks-are ∙ rule-sum p masks rule

  form-is : form_in state ≡ φ
  form-is = reads-form φ masks slots ticks few-boards few-slots few-nodes coded

  places-pass : places_ok state ≡ true
  unfolding places_ok
  places-pass =
      let slots_stand = reads-slots-offset φ masks slots ticks few-boards few-slots few-nodes coded ∙ sym (ap₂ slots_at form-is boards-are) in
      let nodes-at : nodes_offset_in state ≡ nodes_from state = rw (form-is, boards-are, slots-are) (reads-nodes-offset φ masks slots ticks few-boards few-slots few-nodes coded) in
      both_true _ _ (eq-eqb (boards_offset_in state) boards_at (reads-boards-offset φ masks slots ticks few-boards few-slots few-nodes coded))
      (both_true _ _ (eq-eqb (slots_offset_in state) (slots_at (form_in state) (boards_in state)) slots_stand) (eq-eqb (nodes_offset_in state) (nodes_from state) nodes-at))

  header-passes : header_ok state ≡ true
  unfolding header_ok each_true
  header-passes =
      let most-slots = ap slots_most form-is in
      let most-nodes = ap nodes_most form-is in
      both_true _ _ (range-of boards_most (boards_in state) (omega (arith, boards-are)) (omega (arith, boards-are)))
      (both_true _ _ (range-of (slots_most (form_in state)) (slots_in state) (omega (arith, slots-are)) (omega (arith, slots-are)))
      (both_true _ _ (range-of (nodes_most (form_in state)) (nodes_in state) (omega (arith, nodes-are, nodes-some slots some-slots)) (omega (arith, nodes-are)))
      (both_true _ _ places-pass refl)))

  masks-pass : masks_ok state ≡ true
  unfolding masks_ok
  masks-pass = both_true _ _ (range-of propositions_most (sum_ones (masks_in state)) (omega (arith, ones-are)) (omega (arith, ones-are))) (ap₂ masks_rule ones-are masks-are ∙ rule)

  board-passes : (i : ℕ) → i < boards_in state → board_ok state i ≡ true
  unfolding board_ok
  board-passes i h =
      let l : i < length masks = omega (arith, boards-are) in
      let flag = reads-sampled φ masks slots ticks few-boards few-slots few-nodes coded i l in
      let zero-sample = reads-sample φ masks slots ticks few-boards few-slots few-nodes coded i l in
      both_true _ _ (le-leb (sampled_in state i) 1 (omega arith))
      (both_true _ _ (eq-eqb _ _ (ap (λ (x : ℕ). bit_and x (mask_in state i)) zero-sample ∙ and_zero_l (mask_in state i) ∙ sym zero-sample))
      (either-of _ _ (eq-eqb (sample_in state i) 0 zero-sample)))

  module _ (k : ℕ) (l : k < length slots) where
    board-is : board_of_in state k ≡ (slot_at slots k).board
    board-is = reads-board φ masks slots ticks few-boards few-slots few-nodes coded k l

    mark-is : stepped_in state k ≡ 0
    mark-is = reads-mark φ masks slots ticks few-boards few-slots few-nodes coded k l

    end_is : start_in state k + length_in state k ≡ stretch_end state k
    end_is =
        omega (
          arith,
          reads-start φ masks slots ticks few-boards few-slots few-nodes coded k l,
          reads-length φ masks slots ticks few-boards few-slots few-nodes coded k l,
          reads_end φ masks slots ticks few-boards few-slots few-nodes coded k l,
        )

    record-passes : record_ok state k ≡ true
    unfolding record_ok
    record-passes =
        let some-length : 1 ≤ length_in state k = omega (arith, reads-length φ masks slots ticks few-boards few-slots few-nodes coded k l, size-some (slot_at slots k).formula) in
        both_true _ _ (lt-ltb (board_of_in state k) (boards_in state) (omega (arith, board-is, boards-are, (fits k l).board-there)))
        (both_true _ _ (le-leb (stepped_in state k) 1 (omega (arith, mark-is)))
        (both_true _ _ (le-leb 1 (length_in state k) some-length)
        (both_true _ _ (le-leb (start_in state k + length_in state k) (stretch_end state k) (omega (arith, end_is)))
        (either-of _ _ (eq-eqb (start_in state k + length_in state k) (stretch_end state k) end_is)))))

    formula-passes : formula_ok state (sum_ones (masks_in state)) k (formula_in state k) ≡ true
    formula-passes =
        let f = (slot_at slots k).formula in
        let q = sum_ones (masks_in state) in
        let x = fits k l in
        let mask = ap (mask_in state) board-is ∙ reads-mask φ masks slots ticks few-boards few-slots few-nodes coded (slot_at slots k).board x.board-there (mask-less (slot_at slots k).board x.board-there) in
        ap (λ (o : Option Formula). formula_ok state q k o) (reads-formula φ masks slots ticks few-boards few-slots few-nodes coded k l)
        ∙ both_true _ _
        (both_true _ _ (within-over q (slots_in state) f (wider p (length slots) q (slots_in state) (omega (arith, ones-are)) (omega (arith, slots-are)) f x.within))
        (both_true _ _ x.tidied (tidy-only (λ m. ltb k m) f x.tidied (holds-map (λ m. k < m) (λ m. ltb k m ≡ true) (λ m h. lt-ltb k m h) f x.above))))
        (pick-elim (λ (b : Bool). b ≡ true) _ _ _ (λ e. absurd (omega (arith, eqb-true (stepped_in state k) 1 e, mark-is))) (λ e. ap (λ (m : ℕ). unfolded_own m f) mask ∙ x.own))

    gap-passes : gap_ok state k ≡ true
    unfolding gap_ok all_zero
    gap-passes =
        let e : stretch_end state k - (start_in state k + length_in state k) ≡ 0 = omega (arith, end_is) in
        ap (λ (n : ℕ). all_zero (take n (drop (nodes_from state + (start_in state k + length_in state k)) state))) e

  pub written-passes : ((m : ℕ) → times_held m slots ≤ 1) → state_ok state ≡ true
  written-passes once =
      checked-of state
      (record {
        long = state-length φ masks slots ticks few-boards few-slots few-nodes coded ∙ sym (ap state_length form-is);
        header = header-passes;
        masks = masks-pass;
        boards = each_of (board_ok state) (boards_in state) board-passes;
        starts = reads-start φ masks slots ticks few-boards few-slots few-nodes coded 0 some-slots ∙ start-zero slots;
        records = each_of (record_ok state) (slots_in state) (λ k l. record-passes k (omega (arith, slots-are)));
        formulas = each_of (λ k. formula_ok state (sum_ones (masks_in state)) k (formula_in state k)) (slots_in state) (λ k l. formula-passes k (omega (arith, slots-are)));
        holders = distinct_of (holders_in state (slots_in state))
            (λ m.
            (let e = ap (λ (n : ℕ). times m (holders_in state n)) slots-are ∙ holders-times state slots (reads-formula φ masks slots ticks few-boards few-slots few-nodes coded) m in
            omega (arith, once m)));
        gaps = each_of (gap_ok state) (slots_in state) (λ k l. gap-passes k (omega (arith, slots-are)));
        rest = reads-rest φ masks slots ticks few-boards few-slots few-nodes coded;
      })
