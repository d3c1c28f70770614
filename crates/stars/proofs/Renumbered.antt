-- The worked values of a tick whose slots 1 and 2 do not hold one another, so that either is stepped first: the table's rows,
-- `Renumbered`, and that they hold, `renumbered`. The rule is always a or always b, or always a or always c, with a on board 0 and b and
-- c on board 1, under a and c. Slot 1 vanishes in the close and slot 2 lives on as slot 1. Each row is computed from the definitions that
-- the promises of `load`, `sample`, `step`, `close` and `ask` cite, over the state's bytes. a, b and c are 64, 65 and 66. Assumes nothing.
use mathlib.Core.Path.{◌≡◌, refl}
use mathlib.Core.List.{List, [], ◌∷◌, ◌++◌}
use Prim.Native.Nat.{ℕ}
use lib.ListN.{replicate}
use Rattle.lists.specs.Tests.{pick, both, either, bit}
use Rattle.lists.specs.Listed.{listed}
use Rattle.answers.specs.Said.{refused, in_order, left}
use Rattle.answers.specs.declared.Verdict.TheVariants.{Pending}
use Rattle.kinds.specs.Kinds.{kind_of}
use Rattle.le.specs.Le.{le, le_at}
use Rattle.masks.specs.Masks.{sum_to, ones_of, sum_ones, union_with, masks_rule}
use Rattle.ltl.specs.Formula.{same_bool, same_leaf, same, leaf_over, over}
use Rattle.ltl.specs.Progression.{is_constant, member, joined, negated}
use Rattle.ltl.specs.Decode.{is_formula}
use Rattle.folded.specs.Folding.{is_either, folded_one, folded_two}
use Rattle.rules.specs.RuleFile.{counts_ok, mask_bytes, file_of}
use Rattle.rules.specs.Read.{offsets_ok}
use Rattle.network.specs.Scores.{highest, chosen}
use Rattle.network.specs.Layout.{looked, laid, load, relaid, close}
use Rattle.network.specs.Tick.{holds_only}
use Rattle.state.specs.Form.{form_of, board_at}
use Rattle.state.specs.Fields.{stretch_end}
use Rattle.state.specs.Writes.{sample_given, slot_stepped}
use Rattle.state.specs.Clauses.{each_below, all_zero, each_true, tidy, unfolded_own, lone_other, held_by, among, distinct, board_ok, record_ok, gap_ok, holders_in, places_ok, header_ok, masks_ok, rest_ok, state_ok}
use Rattle.state.specs.Bytes.{state_of}
use Rattle.state.specs.Calls.{finished_in, verdict_in, ask_says, sample_says, ready_in, step_says, stepped_to, done_in, close_says}
use Rattle.loading.specs.Load.{load_lengths_ok, load_says}
use Rattle.stars.proofs.States.{board, slot, state, LoadGives, SampleGives, StepGives, CloseGives, close-gives, AskGives}
use Rattle.stars.proofs.Split.{on}

-- the masks of the two boards
abbrev pub masks : List ℕ
masks = 1 ∷ 6 ∷ []

-- the rule's file
abbrev pub rule_file : List ℕ
rule_file = file_of masks 3 (4 ∷ 4 ∷ 8 ∷ 64 ∷ 8 ∷ 65 ∷ 4 ∷ 8 ∷ 64 ∷ 8 ∷ 66 ∷ [])

-- ---- its states
-- no board has sampled
abbrev pub unsampled : List (List ℕ)
unsampled = board 1 0 0 ∷ board 6 0 0 ∷ []

-- board 0 alone has sampled, a
abbrev pub first_sampled : List (List ℕ)
first_sampled = board 1 1 1 ∷ board 6 0 0 ∷ []

-- board 1 alone has sampled, c
abbrev pub second_sampled : List (List ℕ)
second_sampled = board 1 0 0 ∷ board 6 4 1 ∷ []

-- both have
abbrev pub sampled : List (List ℕ)
sampled = board 1 1 1 ∷ board 6 4 1 ∷ []

-- a slot's mark and length, and the bytes of its stretch
pub record Piece : Type 0 where
  pub mark : ℕ
  pub long : ℕ
  pub stretch : List ℕ

-- three slots, in stretches of 15, 5 and 5 bytes
abbrev pub three : List (List ℕ) → Piece → Piece → Piece → List ℕ
three boards x y z =
    state 0 boards (slot 0 x.mark 0 x.long ∷ slot 1 y.mark 15 y.long ∷ slot 1 z.mark 20 z.long ∷ [])
    (x.stretch ++ (y.stretch ++ z.stretch))

-- slot 0 as laid, and stepped: always a, or what slot 2 is
abbrev pub slot0 : Piece
slot0 = record { mark = 0; long = 15; stretch = 4 ∷ 4 ∷ 3 ∷ 64 ∷ 5 ∷ 8 ∷ 64 ∷ 129 ∷ 4 ∷ 3 ∷ 64 ∷ 5 ∷ 8 ∷ 64 ∷ 130 ∷ [] }

abbrev pub slot0_stepped : Piece
slot0_stepped = record { mark = 1; long = 4; stretch = (4 ∷ 8 ∷ 64 ∷ 130 ∷ []) ++ replicate 11 0 }

-- slot 1 as laid, and stepped: false
abbrev pub slot1 : Piece
slot1 = record { mark = 0; long = 5; stretch = 3 ∷ 65 ∷ 5 ∷ 8 ∷ 65 ∷ [] }

abbrev pub slot1_stepped : Piece
slot1_stepped = record { mark = 1; long = 1; stretch = replicate 5 0 }

-- slot 2 as laid, and stepped: always c
abbrev pub slot2 : Piece
slot2 = record { mark = 0; long = 5; stretch = 3 ∷ 66 ∷ 5 ∷ 8 ∷ 66 ∷ [] }

abbrev pub slot2_stepped : Piece
slot2_stepped = record { mark = 1; long = 2; stretch = 8 ∷ 66 ∷ 0 ∷ 0 ∷ 0 ∷ [] }

-- closed: slot 2 has become slot 1
abbrev pub renumbered_state : List ℕ
renumbered_state =
    state 1 unsampled (slot 0 0 0 7 ∷ slot 1 0 7 5 ∷ []) (4 ∷ 3 ∷ 64 ∷ 5 ∷ 8 ∷ 64 ∷ 129 ∷ 3 ∷ 66 ∷ 5 ∷ 8 ∷ 66 ∷ [])

-- ---- the rows
pub record Renumbered : Type 0 where
  pub loads : LoadGives rule_file (three unsampled slot0 slot1 slot2)
  pub begins : AskGives (three unsampled slot0 slot1 slot2) Pending 0 3 25
  -- board 0 samples, then board 1, and slot 1 is stepped before slot 2
  pub up-board-0 : SampleGives (three unsampled slot0 slot1 slot2) 0 1 (three first_sampled slot0 slot1 slot2)
  pub up-board-1 : SampleGives (three first_sampled slot0 slot1 slot2) 1 4 (three sampled slot0 slot1 slot2)
  pub up-slot-1 : StepGives (three sampled slot0 slot1 slot2) 1 (three sampled slot0 slot1_stepped slot2)
  pub up-slot-2 : StepGives (three sampled slot0 slot1_stepped slot2) 2 (three sampled slot0 slot1_stepped slot2_stepped)
  -- board 1 samples, and slot 2 is stepped before slot 1; then board 0 samples
  pub down-board-1 : SampleGives (three unsampled slot0 slot1 slot2) 1 4 (three second_sampled slot0 slot1 slot2)
  pub down-slot-2 : StepGives (three second_sampled slot0 slot1 slot2) 2 (three second_sampled slot0 slot1 slot2_stepped)
  pub down-slot-1 : StepGives (three second_sampled slot0 slot1 slot2_stepped) 1 (three second_sampled slot0 slot1_stepped slot2_stepped)
  pub down-board-0 : SampleGives (three second_sampled slot0 slot1_stepped slot2_stepped) 0 1 (three sampled slot0 slot1_stepped slot2_stepped)
  -- slot 0 waits for both that it holds
  pub waits-for-2 : step_says (three sampled slot0 slot1_stepped slot2) 0 ≡ refused 14
  pub waits-for-1 : step_says (three sampled slot0 slot1 slot2_stepped) 0 ≡ refused 14
  pub last : StepGives (three sampled slot0 slot1_stepped slot2_stepped) 0 (three sampled slot0_stepped slot1_stepped slot2_stepped)
  pub closes : CloseGives (three sampled slot0_stepped slot1_stepped slot2_stepped) renumbered_state
  pub stands : AskGives renumbered_state Pending 1 2 12
  -- a root that has become a place holder alone stays on its board, though all that it leads to is on the other
  pub lone : close (chosen masks) (on 0 (129 ∷ []) ∷ on 1 (8 ∷ 66 ∷ []) ∷ []) ≡ on 0 (129 ∷ []) ∷ on 1 (3 ∷ 66 ∷ 5 ∷ 8 ∷ 66 ∷ []) ∷ []

pub renumbered : Renumbered
unfolding pick both either bit in_order left kind_of le le_at sum_to ones_of sum_ones union_with masks_rule same_bool same_leaf same leaf_over over is_formula is_constant member joined counts_ok mask_bytes file_of listed offsets_ok highest chosen looked laid load relaid close holds_only stretch_end each_below all_zero each_true tidy unfolded_own lone_other held_by among distinct board_ok record_ok gap_ok holders_in places_ok header_ok masks_ok rest_ok form_of board_at sample_given slot_stepped state_ok state_of finished_in verdict_in ask_says sample_says ready_in step_says stepped_to done_in close_says load_lengths_ok load_says negated is_either folded_one folded_two
renumbered =
    record {
      loads = record { says = refl; leaves = λ before. refl };
      begins = refl;
      up-board-0 = record { says = refl; leaves = refl };
      up-board-1 = record { says = refl; leaves = refl };
      up-slot-1 = record { says = refl; leaves = refl };
      up-slot-2 = record { says = refl; leaves = refl };
      down-board-1 = record { says = refl; leaves = refl };
      down-slot-2 = record { says = refl; leaves = refl };
      down-slot-1 = record { says = refl; leaves = refl };
      down-board-0 = record { says = refl; leaves = refl };
      waits-for-2 = refl;
      waits-for-1 = refl;
      last = record { says = refl; leaves = refl };
      closes = close-gives _ _ refl refl;
      stands = refl;
      lone = refl;
    }
