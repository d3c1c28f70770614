-- The worked values of always a, or always b, a on board 0 and b on board 1: the table's rows, `Surviving`, and that they hold,
-- `surviving`. Events 3, 1, 0. In the first tick slot 1 lives on through the close, and the tick is made in two orders; in the second it
-- vanishes; the third ends the watch with the verdict false. Each row is computed from the definitions that the promises of `load`,
-- `sample`, `step`, `close` and `ask` cite, over the state's bytes. a and b are 64 and 65. Assumes nothing.
use mathlib.Core.Path.{◌≡◌, refl}
use mathlib.Core.List.{List, [], ◌∷◌, ◌++◌}
use mathlib.Core.Option.{some}
use Prim.Native.Nat.{ℕ}
use lib.ListN.{replicate, set}
use Rattle.lists.specs.Tests.{pick, both, either, bit}
use Rattle.lists.specs.Listed.{listed}
use Rattle.answers.specs.Said.{refused, in_order, left}
use Rattle.answers.specs.declared.Refusal.TheVariants.{Unready}
use Rattle.answers.specs.declared.Verdict.TheVariants.{False, Pending}
use Rattle.kinds.specs.Kinds.{kind_of}
use Rattle.le.specs.Le.{le, le_at}
use Rattle.masks.specs.Masks.{sum_to, ones_of, sum_ones, union_with, masks_rule}
use Rattle.ltl.specs.Formula.{same_bool, same_leaf, same, leaf_over, over}
use Rattle.ltl.specs.Progression.{unfolded, is_constant, member, joined, negated}
use Rattle.ltl.specs.Decode.{is_formula, formula_of}
use Rattle.folded.specs.Folding.{is_either, folded_one, folded_two}
use Rattle.rules.specs.RuleFile.{counts_ok, mask_bytes, file_of}
use Rattle.rules.specs.Read.{offsets_ok}
use Rattle.network.specs.Scores.{highest, chosen}
use Rattle.network.specs.Layout.{looked, laid, load, relaid, close}
use Rattle.network.specs.Tick.{holds_only}
use Rattle.state.specs.Form.{form_of, board_at}
use Rattle.state.specs.Fields.{stretch_end}
use Rattle.state.specs.Writes.{sample_given, slot_stepped}
use Rattle.state.specs.Clauses.{each_below, all_zero, each_true, tidy, unfolded_own, lone_other, held_by, among, distinct, board_ok, record_ok, gap_ok, holders_in, places_ok, header_ok, masks_ok, rest_ok, state_ok}
use Rattle.state.specs.Bytes.{state_of}
use Rattle.state.specs.Calls.{finished_in, verdict_in, ask_says, sample_says, ready_in, step_says, stepped_to, done_in, close_says}
use Rattle.loading.specs.Load.{load_lengths_ok, load_says}
use Rattle.stars.proofs.Layouts.{two_masks}
use Rattle.stars.proofs.States.{board, slot, state, LoadGives, SampleGives, StepGives, CloseGives, close-gives, LoadRefuses, CloseRefuses, close-refuses, AskGives}
use Rattle.stars.proofs.Split.{on, unsampled, half_sampled, sampled}

-- the rule's bytes
abbrev pub rule : List ℕ
rule = 4 ∷ 8 ∷ 64 ∷ 8 ∷ 65 ∷ []

-- its file
abbrev pub rule_file : List ℕ
rule_file = file_of two_masks 2 rule

-- the same with another version
abbrev pub other_version : List ℕ
other_version = set rule_file 0 2

-- ---- its states
-- board 1 has sampled y, and board 0 has not sampled
abbrev pub other_half : ℕ → List (List ℕ)
other_half y = board 1 0 0 ∷ board 2 y 1 ∷ []

-- two slots as laid, after so many ticks and with these boards
abbrev pub as_laid : ℕ → List (List ℕ) → List ℕ
as_laid ticks boards =
    state ticks boards (slot 0 0 0 7 ∷ slot 1 0 7 5 ∷ []) (4 ∷ 3 ∷ 64 ∷ 5 ∷ 8 ∷ 64 ∷ 129 ∷ 3 ∷ 65 ∷ 5 ∷ 8 ∷ 65 ∷ [])

-- the first tick: slot 1 is stepped under b and has become always b
abbrev pub held_lives : List (List ℕ) → List ℕ
held_lives boards =
    state 0 boards (slot 0 0 0 7 ∷ slot 1 1 7 2 ∷ []) (4 ∷ 3 ∷ 64 ∷ 5 ∷ 8 ∷ 64 ∷ 129 ∷ 8 ∷ 65 ∷ 0 ∷ 0 ∷ 0 ∷ [])

-- both are stepped: slot 0 has become always a, or what slot 1 is
abbrev pub both_live : List ℕ
both_live =
    state 0 (sampled 1 2) (slot 0 1 0 4 ∷ slot 1 1 7 2 ∷ []) (4 ∷ 8 ∷ 64 ∷ 129 ∷ 0 ∷ 0 ∷ 0 ∷ 8 ∷ 65 ∷ 0 ∷ 0 ∷ 0 ∷ [])

-- the second tick: slot 1 is stepped without b and has become false
abbrev pub held_fails : List ℕ
held_fails =
    state 1 (sampled 1 0) (slot 0 0 0 7 ∷ slot 1 1 7 1 ∷ []) (4 ∷ 3 ∷ 64 ∷ 5 ∷ 8 ∷ 64 ∷ 129 ∷ 0 ∷ 0 ∷ 0 ∷ 0 ∷ 0 ∷ [])

-- both are stepped: slot 0 has become always a
abbrev pub root_lives : List ℕ
root_lives =
    state 1 (sampled 1 0) (slot 0 1 0 2 ∷ slot 1 1 7 1 ∷ []) (8 ∷ 64 ∷ 0 ∷ 0 ∷ 0 ∷ 0 ∷ 0 ∷ 0 ∷ 0 ∷ 0 ∷ 0 ∷ 0 ∷ [])

-- the third tick: slot 0 alone, with these boards
abbrev pub alone : List (List ℕ) → List ℕ
alone boards = state 2 boards (slot 0 0 0 5 ∷ []) (3 ∷ 64 ∷ 5 ∷ 8 ∷ 64 ∷ [])

-- it is stepped without a and has become false
abbrev pub root_fails : List ℕ
root_fails = state 2 (sampled 0 0) (slot 0 1 0 1 ∷ []) (0 ∷ 0 ∷ 0 ∷ 0 ∷ 0 ∷ [])

-- finished, false
abbrev pub finished : List ℕ
finished = state 3 unsampled (slot 0 0 0 1 ∷ []) (0 ∷ [])

-- ---- the rows
pub record Surviving : Type 0 where
  -- its file's bytes
  pub file : rule_file ≡ 1 ∷ 0 ∷ 2 ∷ 0 ∷ 2 ∷ 0 ∷ 5 ∷ 0 ∷ 16 ∷ 0 ∷ 32 ∷ 0 ∷ 37 ∷ 0 ∷ 0 ∷ 0 ∷ 1 ∷ 0 ∷ 0 ∷ 0 ∷ 0 ∷ 0 ∷ 0 ∷ 0 ∷ 2 ∷ 0 ∷ 0 ∷ 0 ∷ 0 ∷ 0 ∷ 0 ∷ 0 ∷ 4 ∷ 8 ∷ 64 ∷ 8 ∷ 65 ∷ []
  -- the layout; the tie goes to board 0
  pub whole-on : chosen two_masks (unfolded (formula_of rule)) ≡ some 0
  pub layout : load (chosen two_masks) (formula_of rule) ≡ on 0 (4 ∷ 3 ∷ 64 ∷ 5 ∷ 8 ∷ 64 ∷ 129 ∷ []) ∷ on 1 (3 ∷ 65 ∷ 5 ∷ 8 ∷ 65 ∷ []) ∷ []
  pub loads : LoadGives rule_file (as_laid 0 unsampled)
  -- that state, byte by byte
  pub bytes :
      as_laid 0 unsampled ≡
      (2 ∷ 0 ∷ 2 ∷ 0 ∷ 12 ∷ 0 ∷ 16 ∷ 0 ∷ 50 ∷ 0 ∷ 62 ∷ 0 ∷ 0 ∷ 0 ∷ 0 ∷ 0 ∷ [])
      ++ ((1 ∷ replicate 16 0) ++ ((2 ∷ replicate 16 0)
      ++ ((0 ∷ 0 ∷ 0 ∷ 0 ∷ 7 ∷ 0 ∷ 1 ∷ 0 ∷ 7 ∷ 0 ∷ 5 ∷ 0 ∷ [])
      ++ ((4 ∷ 3 ∷ 64 ∷ 5 ∷ 8 ∷ 64 ∷ 129 ∷ 3 ∷ 65 ∷ 5 ∷ 8 ∷ 65 ∷ []) ++ replicate 4694 0))))
  pub begins : AskGives (as_laid 0 unsampled) Pending 0 2 12
  -- files that are refused: one of no bytes, and one of another version
  pub no_bytes : LoadRefuses [] 1
  pub no-version : LoadRefuses other_version 2
  -- before anything is sampled the tick cannot be closed
  pub at_once : CloseRefuses (as_laid 0 unsampled) 14
  -- the first tick, under both: board 0 samples, then board 1, then the slots are stepped, the held one first
  pub both-0 : SampleGives (as_laid 0 unsampled) 0 1 (as_laid 0 (half_sampled 1))
  pub both-1 : SampleGives (as_laid 0 (half_sampled 1)) 1 2 (as_laid 0 (sampled 1 2))
  pub both-waits : step_says (as_laid 0 (sampled 1 2)) 0 ≡ refused 14
  pub both-held : StepGives (as_laid 0 (sampled 1 2)) 1 (held_lives (sampled 1 2))
  pub both-early : CloseRefuses (held_lives (sampled 1 2)) 14
  pub both-root : StepGives (held_lives (sampled 1 2)) 0 both_live
  -- the same tick in another order: board 1 samples and its slot is stepped before board 0 samples
  pub other-1 : SampleGives (as_laid 0 unsampled) 1 2 (as_laid 0 (other_half 2))
  pub other-held : StepGives (as_laid 0 (other_half 2)) 1 (held_lives (other_half 2))
  pub other-waits : step_says (held_lives (other_half 2)) 0 ≡ refused 14
  pub other-early : CloseRefuses (held_lives (other_half 2)) 14
  pub other-0 : SampleGives (held_lives (other_half 2)) 0 1 (held_lives (sampled 1 2))
  -- slot 1 is laid again in its place, and so the network is as it was, one tick on
  pub both-again : close (chosen two_masks) (on 0 (4 ∷ 8 ∷ 64 ∷ 129 ∷ []) ∷ on 1 (8 ∷ 65 ∷ []) ∷ []) ≡ load (chosen two_masks) (formula_of rule)
  pub both-unclosed : AskGives both_live Pending 0 2 12
  pub both-closes : CloseGives both_live (as_laid 1 unsampled)
  pub both-stands : AskGives (as_laid 1 unsampled) Pending 1 2 12
  -- the second tick, under a: slot 1 becomes false, slot 0 always a, and slot 1 vanishes
  pub a_0 : SampleGives (as_laid 1 unsampled) 0 1 (as_laid 1 (half_sampled 1))
  pub a_1 : SampleGives (as_laid 1 (half_sampled 1)) 1 0 (as_laid 1 (sampled 1 0))
  pub a-held : StepGives (as_laid 1 (sampled 1 0)) 1 held_fails
  pub a-early : CloseRefuses held_fails 14
  pub a-root : StepGives held_fails 0 root_lives
  pub a-closes : CloseGives root_lives (alone unsampled)
  pub a-stands : AskGives (alone unsampled) Pending 2 1 5
  -- the third tick, under none: slot 0 becomes false, which is the verdict once the tick is closed
  pub none-0 : SampleGives (alone unsampled) 0 0 (alone (half_sampled 0))
  pub none_1 : SampleGives (alone (half_sampled 0)) 1 0 (alone (sampled 0 0))
  pub none-root : StepGives (alone (sampled 0 0)) 0 root_fails
  pub none-unclosed : AskGives root_fails Pending 2 1 5
  pub none-closes : CloseGives root_fails finished
  pub none-stands : AskGives finished False 3 1 1
  pub none_over : (b bits : ℕ) → sample_says finished b bits ≡ refused 10

pub surviving : Surviving
unfolding pick both either bit in_order left kind_of le le_at sum_to ones_of sum_ones union_with masks_rule same_bool same_leaf same leaf_over over is_formula is_constant member joined counts_ok mask_bytes file_of listed offsets_ok highest chosen looked laid load relaid close holds_only stretch_end each_below all_zero each_true tidy unfolded_own lone_other held_by among distinct board_ok record_ok gap_ok holders_in places_ok header_ok masks_ok rest_ok form_of board_at sample_given slot_stepped state_ok state_of finished_in verdict_in ask_says sample_says ready_in step_says stepped_to done_in close_says load_lengths_ok load_says negated is_either folded_one folded_two
surviving =
    record {
      file = refl;
      whole-on = refl;
      layout = refl;
      loads = record { says = refl; leaves = λ before. refl };
      bytes = refl;
      begins = refl;
      no_bytes = record { says = refl; leaves = λ before. refl };
      no-version = record { says = refl; leaves = λ before. refl };
      at_once = close-refuses _ Unready refl;
      both-0 = record { says = refl; leaves = refl };
      both-1 = record { says = refl; leaves = refl };
      both-waits = refl;
      both-held = record { says = refl; leaves = refl };
      both-early = close-refuses _ Unready refl;
      both-root = record { says = refl; leaves = refl };
      other-1 = record { says = refl; leaves = refl };
      other-held = record { says = refl; leaves = refl };
      other-waits = refl;
      other-early = close-refuses _ Unready refl;
      other-0 = record { says = refl; leaves = refl };
      both-again = refl;
      both-unclosed = refl;
      both-closes = close-gives _ _ refl refl;
      both-stands = refl;
      a_0 = record { says = refl; leaves = refl };
      a_1 = record { says = refl; leaves = refl };
      a-held = record { says = refl; leaves = refl };
      a-early = close-refuses _ Unready refl;
      a-root = record { says = refl; leaves = refl };
      a-closes = close-gives _ _ refl refl;
      a-stands = refl;
      none-0 = record { says = refl; leaves = refl };
      none_1 = record { says = refl; leaves = refl };
      none-root = record { says = refl; leaves = refl };
      none-unclosed = refl;
      none-closes = close-gives _ _ refl refl;
      none-stands = refl;
      none_over = λ b bits. refl;
    }
