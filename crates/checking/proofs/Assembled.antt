-- The clauses together, where the counts are the header's: one that fails fails the state check (`..-fail`), all that pass let it pass
-- (`clauses-hold`). Assumes nothing.
use mathlib.Core.Path.{◌≡◌, refl, sym, ap, ap₂, ◌∙◌}
use mathlib.Core.Bool.{Bool, true, false}
use mathlib.Core.List.{List}
use Prim.Native.Nat.{ℕ}
use lib.ListN.{length}
use borrow.Author.Tests.{eq-eqb}
use Rattle.lists.specs.Tests.{both}
use Rattle.lists.proofs.Tests.{both-0, both-1}
use Rattle.masks.specs.Masks.{sum_ones}
use Rattle.state.specs.declared.Counts.{Counts}
use Rattle.state.specs.Form.{form_in, state_length, Formed}
use Rattle.state.specs.Fields.{boards_in, slots_in, masks_in, start_in}
use Rattle.state.specs.Clauses.{each_below, each_true, distinct, holders_in, board_ok, record_ok, gap_ok, header_ok, masks_ok, rest_ok, state_ok}
use Rattle.state.specs.Counted.{Header}
use Rattle.checking.specs.Slotted.{formulas_ok}
use Rattle.records.proofs.Each.{both-last}
use Rattle.records.proofs.Passed.{clause-fails}
use Rattle.checking.proofs.Forming.{formula_test}

module _ (s : List ℕ) (c : Counts) (h : Header s c) where
  of-boards : (test : ℕ → Bool) → each_below c.boards test ≡ each_below (boards_in s) test
  of-boards test = ap (λ (i : ℕ). each_below i test) h.boards-are

  of_slots : (test : ℕ → Bool) → each_below c.slots test ≡ each_below (slots_in s) test
  of_slots test = ap (λ (i : ℕ). each_below i test) h.slots-are

  pub boards-fail : each_below c.boards (board_ok s) ≡ false → state_ok s ≡ false
  boards-fail e = clause-fails s 3 (sym (of-boards (board_ok s)) ∙ e)

  pub records-fail : each_below c.slots (record_ok s) ≡ false → state_ok s ≡ false
  records-fail e = clause-fails s 5 (sym (of_slots (record_ok s)) ∙ e)

  pub gaps-fail : each_below c.slots (gap_ok s) ≡ false → state_ok s ≡ false
  gaps-fail e = clause-fails s 8 (sym (of_slots (gap_ok s)) ∙ e)

  module _ (p : ℕ) (sum : p ≡ sum_ones (masks_in s)) where
    formulas-are : formulas_ok s p c.slots ≡ both (each_below (slots_in s) (formula_test s (sum_ones (masks_in s)))) (distinct (holders_in s (slots_in s)))
    unfolding formulas_ok
    formulas-are = ap₂ (λ (i j : ℕ). both (each_below j (formula_test s i)) (distinct (holders_in s j))) sum h.slots-are

    pub formulas-fail : formulas_ok s p c.slots ≡ false → state_ok s ≡ false
    unfolding both
    formulas-fail e = go (each_below (slots_in s) (formula_test s (sum_ones (masks_in s)))) refl (sym formulas-are ∙ e)
      where
        go : (x : Bool) → each_below (slots_in s) (formula_test s (sum_ones (masks_in s))) ≡ x → both x (distinct (holders_in s (slots_in s))) ≡ false → state_ok s ≡ false
        go true q e = clause-fails s 7 e
        go false q e = clause-fails s 6 q

    -- all but the last
    pub clauses-hold : Formed s → header_ok s ≡ true → masks_ok s ≡ true → each_below c.boards (board_ok s) ≡ true → start_in s 0 ≡ 0
        → each_below c.slots (record_ok s) ≡ true → formulas_ok s p c.slots ≡ true → each_below c.slots (gap_ok s) ≡ true → rest_ok s ≡ state_ok s
    unfolding state_ok each_true both
    clauses-hold l a ms d e f g k =
        let q = sym formulas-are ∙ g in
        let boards : each_below (boards_in s) (board_ok s) ≡ true = sym (of-boards (board_ok s)) ∙ d in
        let records : each_below (slots_in s) (record_ok s) ≡ true = sym (of_slots (record_ok s)) ∙ f in
        let formulas : each_below (slots_in s) (formula_test s (sum_ones (masks_in s))) ≡ true = both-0 (each_below (slots_in s) (formula_test s (sum_ones (masks_in s)))) (distinct (holders_in s (slots_in s))) q in
        let holders : distinct (holders_in s (slots_in s)) ≡ true = both-1 (each_below (slots_in s) (formula_test s (sum_ones (masks_in s)))) (distinct (holders_in s (slots_in s))) q in
        let gaps : each_below (slots_in s) (gap_ok s) ≡ true = sym (of_slots (gap_ok s)) ∙ k in
        rw (eq-eqb (length s) (state_length (form_in s)) l, a, ms, boards, eq-eqb (start_in s 0) 0 e, records, formulas, holders, gaps) (both-last (rest_ok s))
