-- What the calls on a state answer, and what they leave. Assumes nothing: these are definitions.
use Rattle.std.specs.Prelude.{ℕ, ◌+◌, ◌^◌, Bool, not, List, [], ◌∷◌, length, get_or, leb, ltb, eqb}
use Rattle.lists.specs.Tests.{pick, both}
use Rattle.lists.specs.Runs.{padded}
use Rattle.answers.specs.Said.{Said, accepted, left, verdict_number, check, in_order}
use Rattle.answers.specs.declared.Verdict.{Verdict}
use Rattle.answers.specs.declared.Verdict.TheVariants.{False, True, Pending}
use Rattle.ltl.specs.Formula.{Formula, size, encode}
use Rattle.ltl.specs.Progression.{resolved, filled, verdict_of}
use Rattle.network.specs.Scores.{chosen}
use Rattle.network.specs.Layout.{Slot, load, close}
use Rattle.network.specs.Tick.{holds_only}
use Rattle.state.specs.declared.Form.{Form}
use Rattle.state.specs.Form.{form_in, state_length, slots_most, nodes_most}
use Rattle.state.specs.Fields.{boards_in, slots_in, nodes_in, ticks_in, mask_in, sample_in, sampled_in, masks_in, board_of_in, stepped_in, length_in, slot_bytes}
use Rattle.state.specs.Clauses.{in_mask, each_below, is_constant_in, state_ok}
use Rattle.state.specs.Writes.{sample_given, slot_stepped}
use Rattle.state.specs.Bytes.{nodes_of, state_of, formula_at, network_of}

-- ---- finished: one slot, not stepped, holding 0 or 1
unfoldable pub finished_in : List ℕ → Bool
finished_in s = both (eqb (slots_in s) 1) (both (eqb (stepped_in s 0) 0) (is_constant_in s 0))

-- between closes, and until the watch is finished, the verdict is pending
unfoldable pub verdict_in : List ℕ → Verdict
verdict_in s = pick (finished_in s) (pick (eqb (get_or (slot_bytes s 0) 0 0) 1) True False) Pending

-- ---- ask
unfoldable pub ask_says : List ℕ → Said
ask_says s = in_order (check 9 (state_ok s) ∷ []) (accepted (verdict_number (verdict_in s) ∷ ticks_in s ∷ slots_in s ∷ nodes_in s ∷ []))

-- ---- sample: a board gives its sample
unfoldable pub sample_says : List ℕ → ℕ → ℕ → Said
sample_says s board bits =
    in_order
    (check 9 (state_ok s)
    ∷ check 10 (not (finished_in s))
    ∷ check 11 (ltb board (boards_in s))
    ∷ check 12 (in_mask bits (mask_in s board))
    ∷ check 13 (eqb (sampled_in s board) 0)
    ∷ [])
    (accepted [])

abbrev pub sample_leaves : List ℕ → ℕ → ℕ → List ℕ
sample_leaves s board bits = left (sample_says s board bits) (sample_given s board bits) s

-- ---- step: a slot is stepped
-- its board has sampled, and every slot that it holds is stepped
unfoldable pub ready_in : List ℕ → ℕ → Bool
ready_in s k = both (eqb (sampled_in s (board_of_in s k)) 1) (holds_only (λ m. eqb (stepped_in s m) 1) (formula_at s k))

unfoldable pub step_says : List ℕ → ℕ → Said
step_says s k =
    in_order
    (check 9 (state_ok s)
    ∷ check 10 (not (finished_in s))
    ∷ check 11 (ltb k (slots_in s))
    ∷ check 13 (eqb (stepped_in s k) 0)
    ∷ check 14 (ready_in s k)
    ∷ [])
    (accepted [])

-- what the slot becomes: it depends on its nodes, its board's sample, and whether each held slot is true, false or neither
unfoldable pub stepped_to : List ℕ → ℕ → Formula
stepped_to s k = resolved (sample_in s (board_of_in s k)) (filled (λ m. verdict_of (formula_at s m)) (formula_at s k))

-- it is rewritten inside its own stretch, freed bytes are 0, and its length and mark are set
abbrev pub step_leaves : List ℕ → ℕ → List ℕ
step_leaves s k =
    left (step_says s k) (slot_stepped s k (size (stepped_to s k)) (padded (length_in s k) (encode (stepped_to s k)))) s

-- ---- close: the network is laid out again into a second buffer
-- all boards have sampled and all slots are stepped
unfoldable pub done_in : List ℕ → Bool
done_in s = both (each_below (boards_in s) (λ i. eqb (sampled_in s i) 1)) (each_below (slots_in s) (λ k. eqb (stepped_in s k) 1))

abbrev pub next_in : List ℕ → List Slot
next_in s = close (chosen (masks_in s)) (network_of s)

unfoldable pub close_says : List ℕ → ℕ → Said
close_says s room =
    in_order
    (check 1 (eqb room (state_length (form_in s)))
    ∷ check 9 (state_ok s)
    ∷ check 10 (not (finished_in s))
    ∷ check 14 (done_in s)
    ∷ check 15 (ltb (ticks_in s + 1) (2 ^ 32))
    ∷ check 7 (leb (length (next_in s)) (slots_most (form_in s)))
    ∷ check 8 (leb (nodes_of (next_in s)) (nodes_most (form_in s)))
    ∷ [])
    (accepted [])

abbrev pub close_leaves : List ℕ → List ℕ → List ℕ
close_leaves s second = left (close_says s (length second)) (state_of (form_in s) (masks_in s) (next_in s) (ticks_in s + 1)) second

-- ---- the layout of a rule, as loading begins a watch with it: 7 and 8 by the whole layout, then its state
abbrev pub first_of : List ℕ → Formula → List Slot
first_of masks rule = load (chosen masks) rule

abbrev pub loaded_state : Form → List ℕ → Formula → List ℕ
loaded_state φ masks rule = state_of φ masks (first_of masks rule) 0
