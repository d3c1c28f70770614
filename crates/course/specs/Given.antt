-- A tick up to its close, by the calls one at a time: the event's check, a sample from each board, the lowest first, and a step of each
-- slot, the highest first, one after the other up to the first that is refused. Assumes nothing: these are definitions.
use Rattle.std.specs.Prelude.{List, [], ◌∷◌, ℕ, zero, suc, ◌+◌, eqb}
use Rattle.std.specs.Int.Bits.{bit_and}
use Rattle.lists.specs.Tests.{pick}
use Rattle.answers.specs.Said.{Said, accepted, check, in_order}
use Rattle.masks.specs.Masks.{union_with}
use Rattle.state.specs.Fields.{boards_in, slots_in, mask_in, masks_in}
use Rattle.state.specs.Clauses.{in_mask, state_ok}
use Rattle.state.specs.Calls.{sample_says, sample_leaves, step_says, step_leaves}

-- what calls made one after the other have come to: the answer of the last one, and the state that it has left
pub record After : Type 0 where
  pub says : Said
  pub leaves : List ℕ

abbrev pub after : Said → List ℕ → After
after said s = record { says = said; leaves = s }

-- where the last call was accepted, the calls that follow; a refusal ends them
unfoldable pub follow : After → (List ℕ → After) → After
follow a next = pick (eqb a.says.number 0) (next a.leaves) a

-- boards i, i + 1, .. , n of them, are given their parts of the event
unfoldable pub sampled_from : ℕ → ℕ → ℕ → List ℕ → After
sampled_from zero event i s = after (accepted []) s
sampled_from (suc n) event i s =
    follow (after (sample_says s i (bit_and event (mask_in s i))) (sample_leaves s i (bit_and event (mask_in s i)))) (sampled_from n event (i + 1))

-- the slots below n are stepped, the highest number first
unfoldable pub stepped_below : ℕ → List ℕ → After
stepped_below zero s = after (accepted []) s
stepped_below (suc k) s = follow (after (step_says s k) (step_leaves s k)) (stepped_below k)

-- the event may be taken: each of its bits is some board's
unfoldable pub taken_by : List ℕ → ℕ → Said
taken_by s event = in_order (check 9 (state_ok s) ∷ check 12 (in_mask event (union_with 0 (masks_in s))) ∷ []) (accepted [])

-- the whole
unfoldable pub given_under : List ℕ → ℕ → After
given_under s event = follow (follow (after (taken_by s event) s) (sampled_from (boards_in s) event 0)) (stepped_below (slots_in s))
