-- What a tick answers, as one list of checks. Assumes nothing: these are definitions.
use Rattle.std.specs.Prelude.{Bool, List, [], ◌∷◌, ℕ, ◌+◌, ◌^◌, length, leb, ltb, eqb}
use Rattle.answers.specs.Said.{Said, accepted, check, in_order}
use Rattle.masks.specs.Masks.{union_with}
use Rattle.state.specs.Form.{form_in, slots_most, nodes_most}
use Rattle.state.specs.Fields.{boards_in, ticks_in, sampled_in, masks_in}
use Rattle.state.specs.Clauses.{in_mask, each_below, state_ok}
use Rattle.state.specs.Bytes.{nodes_of}
use Rattle.state.specs.Calls.{next_in}
use Rattle.course.specs.Ticked.{tick_leaves}

-- no board has sampled in this tick
abbrev pub none_sampled : List ℕ → Bool
none_sampled s = each_below (boards_in s) (λ i. eqb (sampled_in s i) 0)

-- a tick's refusals in their order: bits in no mask; a board that has sampled; a step that has left a state that fails its check; and
-- those of the close
unfoldable pub tick_order : List ℕ → ℕ → Said
tick_order s event =
    in_order
    (check 12 (in_mask event (union_with 0 (masks_in s)))
    ∷ check 13 (none_sampled s)
    ∷ check 9 (state_ok (tick_leaves s event))
    ∷ check 15 (ltb (ticks_in s + 1) (2 ^ 32))
    ∷ check 7 (leb (length (next_in (tick_leaves s event))) (slots_most (form_in s)))
    ∷ check 8 (leb (nodes_of (next_in (tick_leaves s event))) (nodes_most (form_in s)))
    ∷ [])
    (accepted [])
