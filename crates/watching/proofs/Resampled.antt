-- Steps within a tick, over formulas: one more (`steps-more`), and the same steps under other samples that agree for the slots that are
-- stepped (`steps-agreed`). Assumes nothing.
use mathlib.Core.Path.{◌≡◌, sym, ap, ◌∙◌, subst}
use mathlib.Core.Bool.{Bool, true, false}
use mathlib.Core.List.{List}
use Prim.Native.Nat.{ℕ, ◌<◌}
use native.Mathlib.Decide.{ℕ_discrete}
use native.Mathlib.Omega.{arith}
use lib.ListN.{length, set, length-set}
use lib.Seq.{get_or-set_same, get_or-set_other}
use Rattle.ltl.specs.Formula.{constant}
use Rattle.ltl.specs.Meaning.{Event}
use Rattle.ltl.specs.Progression.{resolved, filled}
use Rattle.network.specs.Layout.{Slot, slot_at}
use Rattle.network.specs.Tick.{holds_only, marked, verdict_at, stepped, Steps, rest, step}

-- one more step
pub steps-more : (a : ℕ → Event) {x y : List Slot} {m n : List Bool} → Steps a x m y n → (k : ℕ) → k < length y → marked n k ≡ false
    → holds_only (marked n) (slot_at y k).formula ≡ true → Steps a x m (stepped a y k) (set n k true)
steps-more a rest k l u r = step k l u r rest
steps-more a (step j l u r more) k l' u' r' = step j l u r (steps-more a more k l' u' r')

-- ---- other samples that agree for the slots that are stepped
module _ (a b : ℕ → Event) where
  board-stays : (x : List Slot) (k j : ℕ) → k < length x → (slot_at (stepped a x k) j).board ≡ (slot_at x j).board
  unfolding stepped
  board-stays x k j l = go (ℕ_discrete j k)
    where
      new : Slot
      new = record { board = (slot_at x k).board; formula = resolved (a (slot_at x k).board) (filled (verdict_at x) (slot_at x k).formula) }

      go : Dec (j ≡ k) → (slot_at (set x k new) j).board ≡ (slot_at x j).board
      go (yes e) = ap (λ (i : ℕ). (slot_at (set x k new) i).board) e ∙ ap (λ (s : Slot). s.board) (get_or-set_same x k new (record { board = 0; formula = constant false }) l) ∙ ap (λ (i : ℕ). (slot_at x i).board) (sym e)
      go (no e) = ap (λ (s : Slot). s.board) (get_or-set_other x k j new (record { board = 0; formula = constant false }) e)

  step-length : (x : List Slot) (k : ℕ) → length (stepped a x k) ≡ length x
  unfolding stepped
  step-length x k = length-set x k _

  still_marked : (m : List Bool) (k j : ℕ) → k < length m → marked m j ≡ true → marked (set m k true) j ≡ true
  still_marked m k j l h = go (ℕ_discrete j k)
    where
      go : Dec (j ≡ k) → marked (set m k true) j ≡ true
      go (yes e) = ap (marked (set m k true)) e ∙ get_or-set_same m k true false l
      go (no e) = get_or-set_other m k j true false e ∙ h

  steps-marked : {x y : List Slot} {m n : List Bool} → Steps a x m y n → length m ≡ length x → (j : ℕ) → marked m j ≡ true → marked n j ≡ true
  steps-marked rest e j h = h
  steps-marked (step {slots = x} {marks = m} k l u r more) e j h =
      steps-marked more (length-set m k true ∙ e ∙ sym (step-length x k)) j (still_marked m k j (omega arith) h)

  pub steps-agreed : {x y : List Slot} {m n : List Bool} → Steps a x m y n → length m ≡ length x
      → ((j : ℕ) → j < length x → marked n j ≡ true → a (slot_at x j).board ≡ b (slot_at x j).board) → Steps b x m y n
  unfolding stepped
  steps-agreed rest e agree = rest
  steps-agreed (step {slots = x} {slots' = y} {marks = m} {marks' = n} k l u r more) e agree =
      let long = length-set m k true ∙ e ∙ sym (step-length x k) in
      let here = agree k l (steps-marked more long k (get_or-set_same m k true false (omega arith))) in
      let same : stepped a x k ≡ stepped b x k =
      ap (λ (v : Event). set x k (record { board = (slot_at x k).board; formula = resolved v (filled (verdict_at x) (slot_at x k).formula) })) here in
      step k l u r
      (subst (λ (z : List Slot). Steps b z (set m k true) y n) same
      (steps-agreed more long (λ j h q. ap a (board-stays x k j l) ∙ agree j (omega (arith, step-length x k)) q ∙ ap b (sym (board-stays x k j l)))))
