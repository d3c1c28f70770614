-- The clauses of the state check about one slot, from facts on numbers and formulas: `record_of` and `formula-of`. They are the other
-- way to what a passing state's slot is. Assumes nothing.
use mathlib.Core.Path.{◌≡◌, ap, ◌∙◌}
use mathlib.Core.Bool.{Bool, true, false, not}
use mathlib.Core.List.{List}
use mathlib.Core.Option.{Option, some}
use Prim.Native.Nat.{ℕ, ◌+◌, ◌<◌, ◌≤◌}
use native.Mathlib.Decide.{ℕ_discrete}
use native.Mathlib.Omega.{arith}
use lib.Dec.{ltb, eqb}
use borrow.Author.Tests.{eqb-true, eqb-false, eq-eqb, le-leb, lt-ltb}
use Rattle.lists.specs.Tests.{both, either}
use Rattle.lists.proofs.Tests.{both_true, either-right, pick-elim}
use Rattle.ltl.specs.Formula.{Formula, Within}
use Rattle.ltl.proofs.Decoding.{within-over}
use Rattle.network.proofs.Laying.{HoldsIn}
use Rattle.network.proofs.Holding.{holds-map}
use Rattle.state.specs.Fields.{boards_in, slots_in, mask_in, sampled_in, board_of_in, stepped_in, start_in, length_in, stretch_end, formula_in}
use Rattle.state.specs.Clauses.{tidy, unfolded_own, lone_other, is_constant_in, record_ok, formula_ok}
use Rattle.checked.proofs.Tidy.{tidy-only}

module _ (s : List ℕ) (k : ℕ) where
  pub record_of : board_of_in s k < boards_in s → stepped_in s k ≤ 1 → 1 ≤ length_in s k → start_in s k + length_in s k ≤ stretch_end s k
      → (stepped_in s k ≡ 0 → start_in s k + length_in s k ≡ stretch_end s k) → record_ok s k ≡ true
  unfolding record_ok either
  record_of there flag some-length used fills =
      both_true _ _ (lt-ltb _ _ there)
      (both_true _ _ (le-leb _ _ flag)
      (both_true _ _ (le-leb _ _ some-length)
      (both_true _ _ (le-leb _ _ used) (filled (ℕ_discrete (stepped_in s k) 1)))))
    where
      filled : Dec (stepped_in s k ≡ 1) → either (eqb (stepped_in s k) 1) (eqb (start_in s k + length_in s k) (stretch_end s k)) ≡ true
      filled (yes e) = rw (eq-eqb (stepped_in s k) 1 e)
      filled (no e) = ap (either (eqb (stepped_in s k) 1)) (eq-eqb _ _ (fills (omega arith))) ∙ either-right (eqb (stepped_in s k) 1)

  -- what a stepped slot is asked
  pub record SteppedSlot (f : Formula) : Type 0 where
    pub sampled : sampled_in s (board_of_in s k) ≡ 1
    pub held : HoldsIn (λ m. (stepped_in s m ≡ 1) × (is_constant_in s m ≡ false)) f
    pub not-lone : lone_other (mask_in s (board_of_in s k)) f ≡ false

  pub formula-of : (p : ℕ) (f : Formula) → formula_in s k ≡ some f → Within p (slots_in s) f → tidy f ≡ true → HoldsIn (λ m. k < m) f
      → (stepped_in s k ≡ 1 → SteppedSlot f) → ((stepped_in s k ≡ 1 → ⊥) → unfolded_own (mask_in s (board_of_in s k)) f ≡ true)
      → formula_ok s p k (formula_in s k) ≡ true
  formula-of p f reads within tidied above stepped own =
      ap (λ (o : Option Formula). formula_ok s p k o) reads
      ∙ both_true _ _
      (both_true _ _ (within-over p (slots_in s) f within)
      (both_true _ _ tidied (tidy-only (λ m. ltb k m) f tidied (holds-map (λ m. k < m) (λ m. ltb k m ≡ true) (λ m h. lt-ltb k m h) f above))))
      (pick-elim (λ (b : Bool). b ≡ true) _ _ _
      (λ e.
      (let x = stepped (eqb-true _ _ e) in
      both_true _ _ (eq-eqb _ _ x.sampled)
      (both_true _ _
      (tidy-only (λ m. both (eqb (stepped_in s m) 1) (not (is_constant_in s m))) f tidied
      (holds-map (λ m. (stepped_in s m ≡ 1) × (is_constant_in s m ≡ false)) (λ m. both (eqb (stepped_in s m) 1) (not (is_constant_in s m)) ≡ true)
      (λ m h. both_true _ _ (eq-eqb _ _ h.0) (ap not h.1)) f x.held))
      (ap not x.not-lone))))
      (λ e. own (eqb-false _ _ e)))
