-- The state check, clause by clause: `checked` has the ten clauses of a state that passes, `checked-of` is the other way. Also
-- `each_of`: a test of every number below another. Assumes nothing.
use mathlib.Core.Path.{◌≡◌, refl}
use mathlib.Core.Bool.{Bool, true}
use mathlib.Core.List.{List}
use Prim.Native.Nat.{ℕ, zero, suc, ◌<◌}
use native.Mathlib.Omega.{arith}
use lib.ListN.{length}
use borrow.Author.Tests.{eqb-true, eq-eqb}
use Rattle.lists.proofs.Tests.{both-0, both-1, both_true}
use Rattle.masks.specs.Masks.{sum_ones}
use Rattle.state.specs.Form.{form_in, state_length, Formed}
use Rattle.state.specs.Fields.{boards_in, slots_in, masks_in, start_in, formula_in}
use Rattle.state.specs.Clauses.{each_below, each_true, distinct, board_ok, record_ok, formula_ok, gap_ok, holders_in, header_ok, masks_ok, rest_ok, state_ok}

pub record Checked (s : List ℕ) : Type 0 where
  pub long : Formed s
  pub header : header_ok s ≡ true
  pub masks : masks_ok s ≡ true
  pub boards : each_below (boards_in s) (board_ok s) ≡ true
  pub starts : start_in s 0 ≡ 0
  pub records : each_below (slots_in s) (record_ok s) ≡ true
  pub formulas : each_below (slots_in s) (λ k. formula_ok s (sum_ones (masks_in s)) k (formula_in s k)) ≡ true
  pub holders : distinct (holders_in s (slots_in s)) ≡ true
  pub gaps : each_below (slots_in s) (gap_ok s) ≡ true
  pub rest : rest_ok s ≡ true

pub checked : (s : List ℕ) → state_ok s ≡ true → Checked s
unfolding state_ok each_true
checked s ok =
    let a1 = both-1 _ _ ok in
    let a2 = both-1 _ _ a1 in
    let a3 = both-1 _ _ a2 in
    let a4 = both-1 _ _ a3 in
    let a5 = both-1 _ _ a4 in
    let a6 = both-1 _ _ a5 in
    let a7 = both-1 _ _ a6 in
    let a8 = both-1 _ _ a7 in
    let a9 = both-1 _ _ a8 in
    record {
      long = eqb-true (length s) (state_length (form_in s)) (both-0 _ _ ok);
      header = both-0 _ _ a1;
      masks = both-0 _ _ a2;
      boards = both-0 _ _ a3;
      starts = eqb-true (start_in s 0) 0 (both-0 _ _ a4);
      records = both-0 _ _ a5;
      formulas = both-0 _ _ a6;
      holders = both-0 _ _ a7;
      gaps = both-0 _ _ a8;
      rest = both-0 _ _ a9;
    }

pub checked-of : (s : List ℕ) → Checked s → state_ok s ≡ true
unfolding state_ok each_true
checked-of s c =
    both_true _ _ (eq-eqb (length s) (state_length (form_in s)) c.long)
    (both_true _ _ c.header
    (both_true _ _ c.masks
    (both_true _ _ c.boards
    (both_true _ _ (eq-eqb (start_in s 0) 0 c.starts)
    (both_true _ _ c.records
    (both_true _ _ c.formulas
    (both_true _ _ c.holders
    (both_true _ _ c.gaps
    (both_true _ _ c.rest refl)))))))))

pub each_of : (test : ℕ → Bool) (n : ℕ) → ((i : ℕ) → i < n → test i ≡ true) → each_below n test ≡ true
unfolding each_below
each_of test zero h = refl
each_of test (suc n) h = both_true (each_below n test) (test n) (each_of test n (λ i l. h i (omega arith))) (h n (omega arith))
