-- A slot's formula, when its clause is checked: what may stand in it, and what the check answers. Assumes nothing: these are
-- definitions.
use Rattle.std.specs.Prelude.{◌≡◌, ℕ, ◌-◌, ◌^◌, Bool, true, false, not, List, ltb, eqb, Option, Some, None}
use Rattle.lists.specs.Tests.{pick, both, either}
use Rattle.state.specs.Fields.{slots_in, mask_in, sampled_in, board_of_in, stepped_in, length_in, formula_in}
use Rattle.state.specs.Clauses.{each_below, distinct, is_constant_in, formula_ok, held_of, holders_in}
use Rattle.slot_sets.specs.declared.SlotSet.{SlotSet}
use Rattle.slot_sets.specs.SlotSets.{has_slot, every_slot}
use Rattle.scanning.specs.declared.Allowed.{Allowed}
use Rattle.scanning.specs.OnePass.{noted}

-- a slot that a stepped slot may hold: it is stepped and no constant
unfoldable pub holdable_in : List ℕ → ℕ → Bool
holdable_in s m = both (eqb (stepped_in s m) 1) (not (is_constant_in s m))

-- the set of these slots
abbrev pub Holdable : List ℕ → SlotSet → Type 0
Holdable s slots = (m : ℕ) → has_slot slots m ≡ both (ltb m (slots_in s)) (holdable_in s m)

-- the board of a stepped slot has sampled
unfoldable pub sampled_for : List ℕ → ℕ → Bool
sampled_for s k = either (not (eqb (stepped_in s k) 1)) (eqb (sampled_in s (board_of_in s k)) 1)

-- the propositions that may stand in a stepped slot of n nodes: a single one is of the slot's own board
unfoldable pub own_stepped : ℕ → ℕ → ℕ
own_stepped mask n = pick (eqb n 1) mask (2 ^ 64 - 1)

-- what may stand in slot k: where it is not stepped, no temporal operator and no other board's proposition outside next; where it is
-- stepped, place holders of the slots that it may hold
unfoldable pub allowed_in : List ℕ → ℕ → SlotSet → ℕ → Allowed
allowed_in s p holdable k =
    pick (eqb (stepped_in s k) 1)
    (record {
      propositions = p;
      slots = slots_in s;
      slot = k;
      own = own_stepped (mask_in s (board_of_in s k)) (length_in s k);
      holders = holdable;
      temporal = true;
    })
    (record {
      propositions = p;
      slots = slots_in s;
      slot = k;
      own = mask_in s (board_of_in s k);
      holders = every_slot;
      temporal = false;
    })

-- slot k's clause, and its place holders noted beside those seen before
unfoldable pub held_in : List ℕ → ℕ → ℕ → SlotSet → Option SlotSet
held_in s p k seen = pick (formula_ok s p k (formula_in s k)) (noted (held_of (formula_in s k)) seen) None

-- the clauses of the first n slots' formulas and of their place holders together
unfoldable pub formulas_ok : List ℕ → ℕ → ℕ → Bool
formulas_ok s p n = both (each_below n (λ k. formula_ok s p k (formula_in s k))) (distinct (holders_in s n))
