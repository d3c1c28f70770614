-- The worked values of a until b, a on board 0 and b on board 1: the table's rows, `SplitUntil`, and that they hold, `split`. Each is
-- computed from the definitions that the promises of `load`, `sample`, `step`, `close` and `ask` cite, over the state's bytes.
-- a and b are 64 and 65. Assumes nothing.
use mathlib.Core.Path.{◌≡◌, refl}
use mathlib.Core.List.{List, [], ◌∷◌, ◌++◌}
use mathlib.Core.Option.{some}
use Prim.Native.Nat.{ℕ}
use lib.ListN.{replicate}
use Rattle.lists.specs.Tests.{pick, both, either, bit}
use Rattle.lists.specs.Listed.{listed}
use Rattle.answers.specs.Said.{refused, in_order, left}
use Rattle.answers.specs.declared.Verdict.TheVariants.{True, Pending}
use Rattle.kinds.specs.Kinds.{kind_of}
use Rattle.le.specs.Le.{le, le_at}
use Rattle.masks.specs.Masks.{sum_to, ones_of, sum_ones, union_with, masks_rule}
use Rattle.ltl.specs.Formula.{same_bool, leaf_over, over}
use Rattle.ltl.specs.Progression.{unfolded, is_constant, joined, negated}
use Rattle.ltl.specs.Decode.{is_formula, formula_of}
use Rattle.folded.specs.Folding.{is_either, folded_one, folded_two}
use Rattle.rules.specs.RuleFile.{counts_ok, mask_bytes, file_of}
use Rattle.rules.specs.Read.{offsets_ok}
use Rattle.network.specs.Scores.{highest, chosen}
use Rattle.network.specs.Layout.{Slot, looked, laid, load, close}
use Rattle.network.specs.Tick.{holds_only}
use Rattle.state.specs.Form.{form_of, board_at}
use Rattle.state.specs.Fields.{stretch_end}
use Rattle.state.specs.Writes.{sample_given, slot_stepped}
use Rattle.state.specs.Clauses.{each_below, all_zero, each_true, tidy, unfolded_own, lone_other, held_by, among, distinct, board_ok, record_ok, gap_ok, holders_in, places_ok, header_ok, masks_ok, rest_ok, state_ok}
use Rattle.state.specs.Bytes.{state_of}
use Rattle.state.specs.Calls.{finished_in, verdict_in, ask_says, sample_says, ready_in, step_says, stepped_to, done_in, close_says}
use Rattle.loading.specs.Load.{load_lengths_ok, load_says}
use Rattle.stars.proofs.Layouts.{two_masks}
use Rattle.stars.proofs.States.{board, slot, state, LoadGives, SampleGives, StepGives, CloseGives, close-gives, AskGives}

-- the rule's bytes
abbrev pub rule : List ℕ
rule = 6 ∷ 64 ∷ 65 ∷ []

-- its file
abbrev pub rule_file : List ℕ
rule_file = file_of two_masks 2 rule

-- a slot over formulas, its formula by its bytes
abbrev pub on : ℕ → List ℕ → Slot
on b bytes = record { board = b; formula = formula_of bytes }

-- ---- its states
-- no board has sampled
abbrev pub unsampled : List (List ℕ)
unsampled = board 1 0 0 ∷ board 2 0 0 ∷ []

-- board 0 has sampled x
abbrev pub half_sampled : ℕ → List (List ℕ)
half_sampled x = board 1 x 1 ∷ board 2 0 0 ∷ []

-- board 0 has sampled x and board 1 y
abbrev pub sampled : ℕ → ℕ → List (List ℕ)
sampled x y = board 1 x 1 ∷ board 2 y 1 ∷ []

-- laid, after so many ticks and with these boards
abbrev pub as_laid : ℕ → List (List ℕ) → List ℕ
as_laid ticks boards = state ticks boards (slot 0 0 0 8 ∷ slot 1 0 8 1 ∷ []) (4 ∷ 129 ∷ 3 ∷ 64 ∷ 5 ∷ 6 ∷ 64 ∷ 65 ∷ 65 ∷ [])

-- slot 1 is stepped and has become the constant v
abbrev pub half_stepped : ℕ → List (List ℕ) → ℕ → List ℕ
half_stepped ticks boards v = state ticks boards (slot 0 0 0 8 ∷ slot 1 1 8 1 ∷ []) (4 ∷ 129 ∷ 3 ∷ 64 ∷ 5 ∷ 6 ∷ 64 ∷ 65 ∷ v ∷ [])

-- both slots are stepped under a: slot 0 has become the rule
abbrev pub stepped_under_a : List ℕ
stepped_under_a = state 0 (sampled 1 0) (slot 0 1 0 3 ∷ slot 1 1 8 1 ∷ []) (6 ∷ 64 ∷ 65 ∷ 0 ∷ 0 ∷ 0 ∷ 0 ∷ 0 ∷ 0 ∷ [])

-- both slots are stepped under b: slot 0 has become true
abbrev pub stepped_under_b : List ℕ
stepped_under_b = state 1 (sampled 0 2) (slot 0 1 0 1 ∷ slot 1 1 8 1 ∷ []) (1 ∷ 0 ∷ 0 ∷ 0 ∷ 0 ∷ 0 ∷ 0 ∷ 0 ∷ 1 ∷ [])

-- finished, true
abbrev pub finished : List ℕ
finished = state 2 unsampled (slot 0 0 0 1 ∷ []) (1 ∷ [])

-- ---- the rows
-- after any number of ticks the boards may sample x and y, and then slot 0 cannot be stepped first
pub record RootWaits (x y : ℕ) : Type 0 where
  pub first : (t : ℕ) → SampleGives (as_laid t unsampled) 0 x (as_laid t (half_sampled x))
  pub second : (t : ℕ) → SampleGives (as_laid t (half_sampled x)) 1 y (as_laid t (sampled x y))
  pub early : (t : ℕ) → step_says (as_laid t (sampled x y)) 0 ≡ refused 14

pub record SplitUntil : Type 0 where
  -- its file's bytes
  pub file : rule_file ≡ 1 ∷ 0 ∷ 2 ∷ 0 ∷ 2 ∷ 0 ∷ 3 ∷ 0 ∷ 16 ∷ 0 ∷ 32 ∷ 0 ∷ 35 ∷ 0 ∷ 0 ∷ 0 ∷ 1 ∷ 0 ∷ 0 ∷ 0 ∷ 0 ∷ 0 ∷ 0 ∷ 0 ∷ 2 ∷ 0 ∷ 0 ∷ 0 ∷ 0 ∷ 0 ∷ 0 ∷ 0 ∷ 6 ∷ 64 ∷ 65 ∷ []
  -- the boards that the unfolded rule and its two operands are chosen for, and the layout
  pub whole-on : chosen two_masks (unfolded (formula_of rule)) ≡ some 0
  pub left-on : chosen two_masks (formula_of (65 ∷ [])) ≡ some 1
  pub right-on : chosen two_masks (formula_of (3 ∷ 64 ∷ 5 ∷ 6 ∷ 64 ∷ 65 ∷ [])) ≡ some 0
  pub layout : load (chosen two_masks) (formula_of rule) ≡ on 0 (4 ∷ 129 ∷ 3 ∷ 64 ∷ 5 ∷ 6 ∷ 64 ∷ 65 ∷ []) ∷ on 1 (65 ∷ []) ∷ []
  pub loads : LoadGives rule_file (as_laid 0 unsampled)
  -- that state, byte by byte
  pub bytes :
      as_laid 0 unsampled ≡
      (2 ∷ 0 ∷ 2 ∷ 0 ∷ 9 ∷ 0 ∷ 16 ∷ 0 ∷ 50 ∷ 0 ∷ 62 ∷ 0 ∷ 0 ∷ 0 ∷ 0 ∷ 0 ∷ [])
      ++ ((1 ∷ replicate 16 0) ++ ((2 ∷ replicate 16 0)
      ++ ((0 ∷ 0 ∷ 0 ∷ 0 ∷ 8 ∷ 0 ∷ 1 ∷ 0 ∷ 8 ∷ 0 ∷ 1 ∷ 0 ∷ []) ++ ((4 ∷ 129 ∷ 3 ∷ 64 ∷ 5 ∷ 6 ∷ 64 ∷ 65 ∷ 65 ∷ []) ++ replicate 4697 0))))
  pub begins : AskGives (as_laid 0 unsampled) Pending 0 2 9
  -- board 1 given 1, which is outside its mask
  pub outside : (t : ℕ) → sample_says (as_laid t unsampled) 1 1 ≡ refused 12
  -- whatever the boards sample, slot 0 waits for slot 1
  pub under_none : RootWaits 0 0
  pub under-a : RootWaits 1 0
  pub under-b : RootWaits 0 2
  pub under-both : RootWaits 1 2
  -- the first tick, under a: slot 1 becomes false and slot 0 the rule, which is laid as before
  pub a-held : StepGives (as_laid 0 (sampled 1 0)) 1 (half_stepped 0 (sampled 1 0) 0)
  pub a-root : StepGives (half_stepped 0 (sampled 1 0) 0) 0 stepped_under_a
  pub a-closes : CloseGives stepped_under_a (as_laid 1 unsampled)
  pub a-stands : AskGives (as_laid 1 unsampled) Pending 1 2 9
  -- the second, under b: slot 1 becomes true, and so does slot 0, which is the verdict once the tick is closed
  pub b-held : StepGives (as_laid 1 (sampled 0 2)) 1 (half_stepped 1 (sampled 0 2) 1)
  pub b-root : StepGives (half_stepped 1 (sampled 0 2) 1) 0 stepped_under_b
  pub b-unclosed : AskGives stepped_under_b Pending 1 2 9
  pub b-closes : CloseGives stepped_under_b finished
  pub b-stands : AskGives finished True 2 1 1
  pub b-over : (b bits : ℕ) → sample_says finished b bits ≡ refused 10

pub split : SplitUntil
unfolding pick both either bit in_order left kind_of le le_at sum_to ones_of sum_ones union_with masks_rule same_bool leaf_over over is_formula is_constant joined counts_ok mask_bytes file_of listed offsets_ok highest chosen looked laid load close holds_only stretch_end each_below all_zero each_true tidy unfolded_own lone_other held_by among distinct board_ok record_ok gap_ok holders_in places_ok header_ok masks_ok rest_ok form_of board_at sample_given slot_stepped state_ok state_of finished_in verdict_in ask_says sample_says ready_in step_says stepped_to done_in close_says load_lengths_ok load_says negated is_either folded_one folded_two
split =
    record {
      file = refl;
      whole-on = refl;
      left-on = refl;
      right-on = refl;
      layout = refl;
      loads = record { says = refl; leaves = λ before. refl };
      bytes = refl;
      begins = refl;
      outside = λ t. refl;
      under_none = record { first = λ t. record { says = refl; leaves = refl }; second = λ t. record { says = refl; leaves = refl }; early = λ t. refl };
      under-a = record { first = λ t. record { says = refl; leaves = refl }; second = λ t. record { says = refl; leaves = refl }; early = λ t. refl };
      under-b = record { first = λ t. record { says = refl; leaves = refl }; second = λ t. record { says = refl; leaves = refl }; early = λ t. refl };
      under-both = record { first = λ t. record { says = refl; leaves = refl }; second = λ t. record { says = refl; leaves = refl }; early = λ t. refl };
      a-held = record { says = refl; leaves = refl };
      a-root = record { says = refl; leaves = refl };
      a-closes = close-gives _ _ refl refl;
      a-stands = refl;
      b-held = record { says = refl; leaves = refl };
      b-root = record { says = refl; leaves = refl };
      b-unclosed = refl;
      b-closes = close-gives _ _ refl refl;
      b-stands = refl;
      b-over = λ b bits. refl;
    }
