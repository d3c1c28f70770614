-- The network of a state that passes: what its slots count (`slots_at`, `nodes-at`), and what the one counts that it closes to
-- (`next-slots`, `next-nodes`). Its slots are clean (`slot-clean`) and hold, unfolded, slots of higher numbers (`slot-higher`,
-- `network-higher`). Assumes nothing.
use mathlib.Core.Path.{◌≡◌, ap, ◌∙◌}
use mathlib.Core.Bool.{true}
use mathlib.Core.List.{List}
use mathlib.Core.Option.{Option}
use Prim.Native.Nat.{ℕ, ◌+◌, ◌<◌}
use native.Mathlib.Omega.{arith}
use lib.ListN.{length}
use Rattle.ltl.specs.Formula.{Formula, size}
use Rattle.ltl.specs.Progression.{unfolded}
use Rattle.masks.specs.Masks.{sum_ones}
use Rattle.network.specs.Scores.{chosen}
use Rattle.network.specs.Layout.{Slot, slot_at}
use Rattle.network.proofs.Owned.{Clean}
use Rattle.network.proofs.Laying.{HoldsIn}
use Rattle.network.proofs.Holding.{unfolded-holds}
use Rattle.state.specs.Fields.{slots_in, masks_in, board_of_in}
use Rattle.state.specs.Clauses.{state_ok}
use Rattle.state.specs.Bytes.{nodes_of, formula_at, network_of}
use Rattle.state.specs.Calls.{next_in}
use Rattle.state.proofs.Listed.{network-length, network-at}
use Rattle.cutting.specs.Cuts.{cuts_on}
use Rattle.laying.proofs.Counting.{held}
use Rattle.checked.proofs.Passing.{passing}
use Rattle.checked.proofs.Held.{slot-holds}
use Rattle.checked.proofs.Tidy.{tidy-clean}
use Rattle.counting.proofs.Levels.{slots_for, nodes_for, slots-again, nodes-again, close-slots, close-nodes}

module _ (s : List ℕ) where
  abbrev choose : Formula → Option ℕ
  choose = chosen (masks_in s)

  -- what slot m counts
  abbrev pub slots_of_slot : ℕ → ℕ
  slots_of_slot = slots_for choose (network_of s)

  abbrev pub nodes_of_slot : ℕ → ℕ
  nodes_of_slot = nodes_for choose (network_of s)

  module _ (ok : state_ok s ≡ true) where
    pub slot-clean : (k : ℕ) → k < slots_in s → Clean choose (formula_at s k)
    slot-clean k l =
        let c = passing s ok in
        let x = c.slots k l in
        tidy-clean (sum_ones (masks_in s)) (masks_in s) c.few-propositions c.masks-rule (slots_in s) (formula_at s k) x.within x.tidied

    pub slot-higher : (k : ℕ) → k < slots_in s → HoldsIn (λ m. (k < m) × (m < slots_in s)) (unfolded (formula_at s k))
    slot-higher k l = unfolded-holds choose (λ m. (k < m) × (m < slots_in s)) (formula_at s k) (slot-clean k l) (slot-holds s k ((passing s ok).slots k l))

    there : (m : ℕ) → m < length (network_of s) → m < slots_in s
    there m l = omega (arith, network-length s)

    pub network-higher : (m : ℕ) → m < length (network_of s) → HoldsIn (λ n. (m < n) × (n < length (network_of s))) (unfolded (slot_at (network_of s) m).formula)
    network-higher m l = rw (network-length s, network-at s m (there m l)) (slot-higher m (there m l))

    pub slots_at : (k : ℕ) → k < slots_in s
        → slots_of_slot k ≡ 1 + (cuts_on choose (unfolded (formula_at s k)) (board_of_in s k) + held slots_of_slot (unfolded (formula_at s k)))
    slots_at k l =
        slots-again choose (network_of s) network-higher k (omega (arith, network-length s))
        ∙ ap (λ (t : Slot). 1 + (cuts_on choose (unfolded t.formula) t.board + held slots_of_slot (unfolded t.formula))) (network-at s k l)

    pub nodes-at : (k : ℕ) → k < slots_in s
        → nodes_of_slot k ≡ cuts_on choose (unfolded (formula_at s k)) (board_of_in s k) + (size (unfolded (formula_at s k)) + held nodes_of_slot (unfolded (formula_at s k)))
    nodes-at k l =
        nodes-again choose (network_of s) network-higher k (omega (arith, network-length s))
        ∙ ap (λ (t : Slot). cuts_on choose (unfolded t.formula) t.board + (size (unfolded t.formula) + held nodes_of_slot (unfolded t.formula))) (network-at s k l)

    some-slots : 0 < length (network_of s)
    some-slots = omega (arith, network-length s, (passing s ok).header.some-slots)

    pub next-slots : length (next_in s) ≡ slots_of_slot 0
    next-slots = close-slots choose (network_of s) network-higher some-slots

    pub next-nodes : nodes_of (next_in s) ≡ nodes_of_slot 0
    next-nodes = close-nodes choose (network_of s) network-higher some-slots
