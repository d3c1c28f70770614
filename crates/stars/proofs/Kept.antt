-- The worked values of slots that keep their board: the table's rows, `KeptBoards`, and that they hold, `kept`. The rule is next (b and
-- b, and always a), with a on board 0 and b on board 1. It is laid on board 1; after a tick its choice would be board 0, by a tie, and it
-- stays where it is. Each row is computed from the definitions that the promises of `load`, `sample`, `step`, `close` and `ask` cite. a
-- and b are 64 and 65. Assumes nothing.
use mathlib.Core.Path.{◌≡◌, refl}
use mathlib.Core.List.{List, [], ◌∷◌}
use mathlib.Core.Option.{some}
use Prim.Native.Nat.{ℕ}
use Rattle.lists.specs.Tests.{pick, both, either, bit}
use Rattle.lists.specs.Listed.{listed}
use Rattle.answers.specs.Said.{in_order, left}
use Rattle.answers.specs.declared.Verdict.TheVariants.{Pending}
use Rattle.kinds.specs.Kinds.{kind_of}
use Rattle.le.specs.Le.{le, le_at}
use Rattle.masks.specs.Masks.{sum_to, ones_of, sum_ones, union_with, masks_rule}
use Rattle.ltl.specs.Formula.{leaf_over, over, same_bool}
use Rattle.ltl.specs.Progression.{unfolded, is_constant, negated}
use Rattle.ltl.specs.Decode.{is_formula, formula_of}
use Rattle.folded.specs.Folding.{is_either, folded_one, folded_two}
use Rattle.rules.specs.RuleFile.{counts_ok, mask_bytes, file_of}
use Rattle.rules.specs.Read.{offsets_ok}
use Rattle.network.specs.Scores.{highest, chosen}
use Rattle.network.specs.Layout.{looked, laid, load, relaid, close}
use Rattle.network.specs.Tick.{holds_only}
use Rattle.state.specs.Form.{form_of, board_at}
use Rattle.state.specs.Fields.{stretch_end}
use Rattle.state.specs.Writes.{sample_given, slot_stepped}
use Rattle.state.specs.Clauses.{each_below, all_zero, each_true, tidy, unfolded_own, lone_other, held_by, among, distinct, board_ok, record_ok, gap_ok, holders_in, places_ok, header_ok, masks_ok, rest_ok, state_ok}
use Rattle.state.specs.Bytes.{state_of}
use Rattle.state.specs.Calls.{finished_in, verdict_in, ask_says, sample_says, ready_in, step_says, stepped_to, done_in, close_says}
use Rattle.loading.specs.Load.{load_lengths_ok, load_says}
use Rattle.stars.proofs.Layouts.{two_masks}
use Rattle.stars.proofs.States.{slot, state, LoadGives, SampleGives, StepGives, CloseGives, close-gives, AskGives}
use Rattle.stars.proofs.Split.{on, unsampled, half_sampled, sampled}

-- what stands under next
abbrev pub later : List ℕ
later = 3 ∷ 3 ∷ 65 ∷ 65 ∷ 8 ∷ 64 ∷ []

-- the rule's file
abbrev pub rule_file : List ℕ
rule_file = file_of two_masks 2 (5 ∷ later)

-- ---- its states
-- as laid, with these boards
abbrev pub as_laid : List (List ℕ) → List ℕ
as_laid boards = state 0 boards (slot 1 0 0 7 ∷ []) (5 ∷ later)

-- stepped: next is gone
abbrev pub root_stepped : List ℕ
root_stepped = state 0 (sampled 0 2) (slot 1 1 0 6 ∷ []) (3 ∷ 3 ∷ 65 ∷ 65 ∷ 8 ∷ 64 ∷ 0 ∷ [])

-- closed: slot 0 still on board 1, and always a on board 0
abbrev pub laid_again : List ℕ
laid_again = state 1 unsampled (slot 1 0 0 5 ∷ slot 0 0 5 5 ∷ []) (3 ∷ 3 ∷ 65 ∷ 65 ∷ 129 ∷ 3 ∷ 64 ∷ 5 ∷ 8 ∷ 64 ∷ [])

-- ---- the rows
pub record KeptBoards : Type 0 where
  pub loads : LoadGives rule_file (as_laid unsampled)
  pub begins : AskGives (as_laid unsampled) Pending 0 1 7
  pub first : SampleGives (as_laid unsampled) 0 0 (as_laid (half_sampled 0))
  pub second : SampleGives (as_laid (half_sampled 0)) 1 2 (as_laid (sampled 0 2))
  pub steps : StepGives (as_laid (sampled 0 2)) 0 root_stepped
  -- another board would be chosen now, and the slot keeps its own
  pub choice : chosen two_masks (unfolded (formula_of later)) ≡ some 0
  pub closes : CloseGives root_stepped laid_again
  pub stands : AskGives laid_again Pending 1 2 10
  -- so does a slot that another holds; what is cut from it comes behind it, and before what stands to its right
  pub held :
      close (chosen two_masks) (on 0 (3 ∷ 129 ∷ 130 ∷ []) ∷ on 1 later ∷ on 1 (65 ∷ []) ∷ [])
      ≡ on 0 (3 ∷ 129 ∷ 131 ∷ []) ∷ on 1 (3 ∷ 3 ∷ 65 ∷ 65 ∷ 130 ∷ []) ∷ on 0 (3 ∷ 64 ∷ 5 ∷ 8 ∷ 64 ∷ []) ∷ on 1 (65 ∷ []) ∷ []

pub kept : KeptBoards
unfolding pick both either bit in_order left kind_of le le_at sum_to ones_of sum_ones union_with masks_rule leaf_over over is_formula counts_ok mask_bytes file_of listed offsets_ok highest chosen looked laid load relaid close holds_only stretch_end each_below all_zero each_true tidy unfolded_own lone_other held_by among distinct board_ok record_ok gap_ok holders_in places_ok header_ok masks_ok rest_ok form_of board_at sample_given slot_stepped state_ok state_of finished_in verdict_in ask_says sample_says ready_in step_says stepped_to done_in close_says load_lengths_ok load_says is_constant same_bool negated is_either folded_one folded_two
kept =
    record {
      loads = record { says = refl; leaves = λ before. refl };
      begins = refl;
      first = record { says = refl; leaves = refl };
      second = record { says = refl; leaves = refl };
      steps = record { says = refl; leaves = refl };
      choice = refl;
      closes = close-gives _ _ refl refl;
      stands = refl;
      held = refl;
    }
