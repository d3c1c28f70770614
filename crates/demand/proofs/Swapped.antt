-- A tick by the calls' promises in which two slots that do not hold one another are stepped in either order, and the boards sample in either
-- order (`lower-first`, `higher-first`): by the third demand every tick under its event leaves the same bytes (`any-order-left`). One of the
-- slots vanishes in the close, and the other lives on with another number. The rows of the worked values are all that is computed here but
-- the boards' parts of the event. Assumes nothing.
use mathlib.Core.Path.{◌≡◌, refl}
use mathlib.Core.List.{List, []}
use Prim.Native.Nat.{ℕ}
use Rattle.lists.specs.Listed.{listed}
use Rattle.answers.specs.declared.Refusal.TheVariants.{Unready}
use Rattle.le.specs.Le.{le, le_at}
use Rattle.network.specs.Scores.{sample_of}
use Rattle.rules.specs.RuleFile.{masks_in_file, mask_bytes, file_of}
use Rattle.stars.proofs.Renumbered.{rule_file, unsampled, first_sampled, second_sampled, sampled, three, slot0, slot1, slot2, slot0_stepped, slot1_stepped, slot2_stepped, renumbered_state, renumbered}
use Rattle.demand.specs.Called.{Ticked, Watched}
use Rattle.demand.proofs.Demand.{demanded}
use Rattle.demand.proofs.Rows.{load-watches, part-nothing, part-samples, part-steps, part-step-refused, part-ticks, ticks-give-same}

-- the masks by which the boards' parts are taken
abbrev masks : List ℕ
masks = masks_in_file rule_file

-- the watch as it begins
abbrev start : List ℕ
start = three unsampled slot0 slot1 slot2

begun : Watched rule_file [] start
begun = load-watches rule_file start renumbered.loads

-- board 0 before board 1, and slot 1 before slot 2; slot 0 is stepped too early
pub lower-first : Ticked masks start 5 renumbered_state
unfolding le le_at listed mask_bytes file_of sample_of
lower-first =
    let c₁ = part-samples (part-nothing masks 5 start) 0 1 (three first_sampled slot0 slot1 slot2) refl renumbered.up-board-0 in
    let c₂ = part-samples c₁ 1 4 (three sampled slot0 slot1 slot2) refl renumbered.up-board-1 in
    let c₃ = part-steps c₂ 1 (three sampled slot0 slot1_stepped slot2) renumbered.up-slot-1 in
    let c₄ = part-step-refused c₃ 0 Unready renumbered.waits-for-2 in
    let c₅ = part-steps c₄ 2 (three sampled slot0 slot1_stepped slot2_stepped) renumbered.up-slot-2 in
    let c₆ = part-steps c₅ 0 (three sampled slot0_stepped slot1_stepped slot2_stepped) renumbered.last in
    part-ticks c₆ renumbered_state renumbered.closes

-- board 1 before board 0, and slot 2 before slot 1
pub higher-first : Ticked masks start 5 renumbered_state
unfolding le le_at listed mask_bytes file_of sample_of
higher-first =
    let c₁ = part-samples (part-nothing masks 5 start) 1 4 (three second_sampled slot0 slot1 slot2) refl renumbered.down-board-1 in
    let c₂ = part-steps c₁ 2 (three second_sampled slot0 slot1 slot2_stepped) renumbered.down-slot-2 in
    let c₃ = part-steps c₂ 1 (three second_sampled slot0 slot1_stepped slot2_stepped) renumbered.down-slot-1 in
    let c₄ = part-samples c₃ 0 1 (three sampled slot0 slot1_stepped slot2_stepped) refl renumbered.down-board-0 in
    let c₅ = part-steps c₄ 0 (three sampled slot0_stepped slot1_stepped slot2_stepped) renumbered.last in
    part-ticks c₅ renumbered_state renumbered.closes

pub any-order-left : (s' : List ℕ) → Ticked masks start 5 s' → s' ≡ renumbered_state
any-order-left s' x = (demanded begun).same_bytes 5 5 s' renumbered_state x lower-first (ticks-give-same x lower-first)
