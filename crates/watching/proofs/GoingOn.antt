-- No tick gets stuck: `goes_on` for every state within a tick of a watch that is not finished. The last board that has not sampled can
-- sample, then the last slot that is not stepped can be stepped. Assumes nothing.
use mathlib.Core.Path.{◌≡◌, ap, ◌∙◌}
use mathlib.Core.Bool.{true, false}
use mathlib.Core.List.{List}
use mathlib.Core.Logic.{◌⊎◌, inl, inr, ⊎_elim}
use Prim.Native.Nat.{ℕ, zero, suc, ◌<◌, ◌≤◌}
use native.Mathlib.Nat.{eq-or-lt_of_le}
use native.Mathlib.Decide.{ℕ_discrete}
use native.Mathlib.Omega.{arith}
use lib.Bits.{and_zero_l}
use borrow.Author.Tests.{eq-eqb}
use Rattle.state.specs.Fields.{boards_in, slots_in, mask_in, sampled_in, board_of_in, stepped_in}
use Rattle.state.specs.Clauses.{state_ok}
use Rattle.state.specs.Calls.{finished_in}
use Rattle.checked.proofs.Passing.{passing}
use Rattle.keeping.proofs.Slots.{zero_flag}
use Rattle.keeping.proofs.Calls.{done-of, above-ready, sample-accepted, step-accepted, close-left}
use Rattle.watching.specs.Claims.{StateGoesOn, samples, steps, closes}

-- the last of n flags that is not 1
record Last (flag : ℕ → ℕ) (n : ℕ) : Type 0 where
  place : ℕ
  below : place < n
  unset : flag place ≡ 1 → ⊥
  above : (j : ℕ) → place < j → j < n → flag j ≡ 1

last-unset : (flag : ℕ → ℕ) (n : ℕ) → ((i : ℕ) → i < n → flag i ≡ 1) ⊎ Last flag n
last-unset flag zero = inl (λ i l. absurd (omega arith))
last-unset flag (suc n) = go (ℕ_discrete (flag n) 1) (last-unset flag n)
  where
    go : Dec (flag n ≡ 1) → ((i : ℕ) → i < n → flag i ≡ 1) ⊎ Last flag n → ((i : ℕ) → i < suc n → flag i ≡ 1) ⊎ Last flag (suc n)
    go (no e) r = inr (record { place = n; below = omega arith; unset = e; above = λ j a b. absurd (omega arith) })
    go (yes e) r =
        ⊎_elim (λ all. inl (λ i l. one i (omega arith) (λ h. all i h)))
        (λ x. inr (record { place = x.place; below = (let h = x.below in omega arith); unset = x.unset; above = λ j a b. one j (omega arith) (λ h. x.above j a h) })) r
      where
        one : (i : ℕ) → i ≤ n → (i < n → flag i ≡ 1) → flag i ≡ 1
        one i l h = ⊎_elim (λ q. ap flag q ∙ e) h (eq-or-lt_of_le l)

module _ (t : List ℕ) (ok : state_ok t ≡ true) (unfinished : finished_in t ≡ false) where
  pub goes_on : StateGoesOn t
  goes_on = boards (last-unset (sampled_in t) (boards_in t))
    where
      slots : ((b : ℕ) → b < boards_in t → sampled_in t b ≡ 1) → ((k : ℕ) → k < slots_in t → stepped_in t k ≡ 1) ⊎ Last (stepped_in t) (slots_in t) → StateGoesOn t
      slots sampled (inl stepped) = let done = done-of t sampled stepped in closes done (close-left t ok unfinished done)
      slots sampled (inr r) =
          let k = r.place in
          let x = (passing t ok).slots k r.below in
          steps k
          (step-accepted t ok unfinished k r.below (zero_flag (stepped_in t k) x.flag r.unset)
          (above-ready t ok k r.below (sampled (board_of_in t k) x.board-there) r.above))

      boards : ((b : ℕ) → b < boards_in t → sampled_in t b ≡ 1) ⊎ Last (sampled_in t) (boards_in t) → StateGoesOn t
      boards (inl sampled) = slots sampled (last-unset (stepped_in t) (slots_in t))
      boards (inr r) =
          let b = r.place in
          samples b 0 (sample-accepted t ok unfinished b 0 r.below (eq-eqb _ _ (and_zero_l (mask_in t b))) (zero_flag (sampled_in t b) ((passing t ok).boards b r.below).flag r.unset))
