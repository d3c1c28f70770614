-- Which calls are accepted, of a state that passes its check and is not finished: a board that has not sampled gives any sample in its
-- mask (`sample-accepted`); a slot whose board has sampled is stepped where those of higher numbers are (`above-ready`, `step-accepted`);
-- and where every board has sampled and every slot is stepped (`done-of`) the close is left (`close-left`). The other way, what an
-- accepted call's checks told: `sample-passed`, `step-passed`. It has written what it was lent (`accepted-leaves`). Assumes nothing.
use mathlib.Core.Path.{◌≡◌, refl, ap, ◌∙◌}
use mathlib.Core.Bool.{Bool, true, false, not}
use mathlib.Core.List.{List, [], ◌∷◌}
use mathlib.Core.Logic.{inl, inr}
use Prim.Native.Nat.{ℕ, ◌+◌, ◌^◌, ◌<◌}
use native.Mathlib.Omega.{arith}
use lib.ListN.{length}
use lib.Dec.{leb, ltb, eqb}
use borrow.Author.Tests.{ltb-true, eqb-true, eq-eqb, lt-ltb}
use Rattle.lists.proofs.Tests.{both_true}
use Rattle.answers.specs.Said.{Said, accepted, left, check, in_order}
use Rattle.answers.proofs.Answers.{left-accepted, order-ok, order-refused, order-done, order-passed}
use Rattle.network.proofs.Holding.{holds-map}
use Rattle.state.specs.Form.{form_in, state_length, slots_most, nodes_most}
use Rattle.state.specs.Fields.{boards_in, slots_in, ticks_in, mask_in, sampled_in, board_of_in, stepped_in}
use Rattle.state.specs.Clauses.{in_mask, state_ok}
use Rattle.state.specs.Bytes.{nodes_of, formula_at}
use Rattle.state.specs.Calls.{finished_in, sample_says, ready_in, step_says, done_in, next_in, close_says}
use Rattle.checked.proofs.Checked.{each_of}
use Rattle.checked.proofs.Passing.{passing}
use Rattle.checked.proofs.Held.{slot-holds}
use Rattle.checked.proofs.Tidy.{tidy-only}
use Rattle.keeping.specs.Closing.{StateClosing, accepts, refuses}

-- ---- what an accepted call leaves, and what its checks told
pub accepted-leaves : (a : Said) (output before : List ℕ) → a ≡ accepted [] → left a output before ≡ output
accepted-leaves a output before e = ap (λ (b : Said). left b output before) e ∙ left-accepted [] output before

pub record SamplePassed (s : List ℕ) (b bits : ℕ) : Type 0 where
  pub ok : state_ok s ≡ true
  pub there : b < boards_in s
  pub inside : in_mask bits (mask_in s b) ≡ true
  pub fresh : sampled_in s b ≡ 0

pub sample-passed : (s : List ℕ) (b bits : ℕ) → sample_says s b bits ≡ accepted [] → SamplePassed s b bits
unfolding sample_says
sample-passed s b bits e =
    let q = order-passed _ (accepted []) (omega arith, (omega arith, (omega arith, (omega arith, (omega arith, tt))))) (ap (λ (a : Said). a.number) e) in
    record { ok = q.0; there = ltb-true _ _ q.1.1.0; inside = q.1.1.1.0; fresh = eqb-true _ _ q.1.1.1.1.0 }

pub record StepPassed (s : List ℕ) (k : ℕ) : Type 0 where
  pub ok : state_ok s ≡ true
  pub there : k < slots_in s
  pub fresh : stepped_in s k ≡ 0
  pub ready : ready_in s k ≡ true

pub step-passed : (s : List ℕ) (k : ℕ) → step_says s k ≡ accepted [] → StepPassed s k
unfolding step_says
step-passed s k e =
    let q = order-passed _ (accepted []) (omega arith, (omega arith, (omega arith, (omega arith, (omega arith, tt))))) (ap (λ (a : Said). a.number) e) in
    record { ok = q.0; there = ltb-true _ _ q.1.1.0; fresh = eqb-true _ _ q.1.1.1.0; ready = q.1.1.1.1.0 }

-- ---- which calls are accepted
pub done-of : (s : List ℕ) → ((b : ℕ) → b < boards_in s → sampled_in s b ≡ 1) → ((k : ℕ) → k < slots_in s → stepped_in s k ≡ 1) → done_in s ≡ true
unfolding done_in
done-of s sampled stepped =
    both_true _ _ (each_of (λ i. eqb (sampled_in s i) 1) (boards_in s) (λ b h. eq-eqb _ _ (sampled b h))) (each_of (λ k. eqb (stepped_in s k) 1) (slots_in s) (λ k h. eq-eqb _ _ (stepped k h)))

module _ (s : List ℕ) (ok : state_ok s ≡ true) where
  pub above-ready : (k : ℕ) → k < slots_in s → sampled_in s (board_of_in s k) ≡ 1 → ((m : ℕ) → k < m → m < slots_in s → stepped_in s m ≡ 1) → ready_in s k ≡ true
  unfolding ready_in
  above-ready k l sampled above =
      let x = (passing s ok).slots k l in
      both_true _ _ (eq-eqb _ _ sampled)
      (tidy-only (λ m. eqb (stepped_in s m) 1) (formula_at s k) x.tidied
      (holds-map (λ m. (k < m) × (m < slots_in s)) (λ m. eqb (stepped_in s m) 1 ≡ true) (λ m h. eq-eqb _ _ (above m h.0 h.1)) (formula_at s k) (slot-holds s k x)))

  module _ (unfinished : finished_in s ≡ false) where
    pub sample-accepted : (b bits : ℕ) → b < boards_in s → in_mask bits (mask_in s b) ≡ true → sampled_in s b ≡ 0 → sample_says s b bits ≡ accepted []
    unfolding sample_says
    sample-accepted b bits there inside fresh =
        order-ok 9 _ _ _ ok ∙ order-ok 10 _ _ _ (ap not unfinished) ∙ order-ok 11 _ _ _ (lt-ltb _ _ there) ∙ order-ok 12 _ _ _ inside ∙ order-ok 13 _ _ _ (eq-eqb _ _ fresh) ∙ order-done _

    pub step-accepted : (k : ℕ) → k < slots_in s → stepped_in s k ≡ 0 → ready_in s k ≡ true → step_says s k ≡ accepted []
    unfolding step_says
    step-accepted k l fresh ready =
        order-ok 9 _ _ _ ok ∙ order-ok 10 _ _ _ (ap not unfinished) ∙ order-ok 11 _ _ _ (lt-ltb _ _ l) ∙ order-ok 13 _ _ _ (eq-eqb _ _ fresh) ∙ order-ok 14 _ _ _ ready ∙ order-done _

    -- all boards have sampled and all slots are stepped: the close is left
    module _ (done : done_in s ≡ true) where
      to-ticks : close_says s (state_length (form_in s)) ≡ in_order (check 15 (ltb (ticks_in s + 1) (2 ^ 32)) ∷ check 7 (leb (length (next_in s)) (slots_most (form_in s))) ∷ check 8 (leb (nodes_of (next_in s)) (nodes_most (form_in s))) ∷ []) (accepted [])
      unfolding close_says
      to-ticks = order-ok 1 _ _ _ (eq-eqb (state_length (form_in s)) _ refl) ∙ order-ok 9 _ _ _ ok ∙ order-ok 10 _ _ _ (ap not unfinished) ∙ order-ok 14 _ _ _ done

      pub close-left : StateClosing s
      close-left = ticks (ltb (ticks_in s + 1) (2 ^ 32)) refl
        where
          nodes : ltb (ticks_in s + 1) (2 ^ 32) ≡ true → leb (length (next_in s)) (slots_most (form_in s)) ≡ true → (b : Bool) → leb (nodes_of (next_in s)) (nodes_most (form_in s)) ≡ b → StateClosing s
          nodes d e true f = accepts (to-ticks ∙ order-ok 15 _ _ _ d ∙ order-ok 7 _ _ _ e ∙ order-ok 8 _ _ _ f ∙ order-done _)
          nodes d e false f = refuses 8 (inr (inl refl)) (to-ticks ∙ order-ok 15 _ _ _ d ∙ order-ok 7 _ _ _ e ∙ order-refused 8 _ _ _ f)

          slots : ltb (ticks_in s + 1) (2 ^ 32) ≡ true → (b : Bool) → leb (length (next_in s)) (slots_most (form_in s)) ≡ b → StateClosing s
          slots d true e = nodes d e (leb (nodes_of (next_in s)) (nodes_most (form_in s))) refl
          slots d false e = refuses 7 (inl refl) (to-ticks ∙ order-ok 15 _ _ _ d ∙ order-refused 7 _ _ _ e)

          ticks : (b : Bool) → ltb (ticks_in s + 1) (2 ^ 32) ≡ b → StateClosing s
          ticks true d = slots d (leb (length (next_in s)) (slots_most (form_in s))) refl
          ticks false d = refuses 15 (inr (inr refl)) (to-ticks ∙ order-refused 15 _ _ _ d)
