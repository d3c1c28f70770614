-- The worked values of rules on one board that constants settle: the table's rows, `Unsplit`, and that they hold, `unsplit`. Each
-- is computed from the definitions that the promises of `load`, `sample`, `step`, `close` and `ask` cite, over the state's bytes.
-- a is 64. Assumes nothing.
use mathlib.Core.Path.{◌≡◌, refl}
use mathlib.Core.List.{List, [], ◌∷◌}
use Prim.Native.Nat.{ℕ}
use Rattle.lists.specs.Tests.{pick, both, either, bit}
use Rattle.lists.specs.Listed.{listed}
use Rattle.answers.specs.Said.{refused, in_order, left}
use Rattle.answers.specs.declared.Verdict.TheVariants.{True, Pending}
use Rattle.kinds.specs.Kinds.{kind_of}
use Rattle.le.specs.Le.{le, le_at}
use Rattle.masks.specs.Masks.{sum_to, ones_of, sum_ones, union_with, masks_rule}
use Rattle.ltl.specs.Formula.{same_bool, leaf_over, over}
use Rattle.ltl.specs.Progression.{is_constant, joined, negated}
use Rattle.ltl.specs.Decode.{is_formula}
use Rattle.folded.specs.Folding.{is_either, folded_one, folded_two}
use Rattle.rules.specs.RuleFile.{counts_ok, mask_bytes, file_of}
use Rattle.rules.specs.Read.{offsets_ok}
use Rattle.network.specs.Scores.{highest, chosen}
use Rattle.network.specs.Layout.{looked, laid, load, close}
use Rattle.network.specs.Tick.{holds_only}
use Rattle.state.specs.Form.{form_of, board_at}
use Rattle.state.specs.Fields.{stretch_end}
use Rattle.state.specs.Writes.{sample_given, slot_stepped}
use Rattle.state.specs.Clauses.{each_below, all_zero, each_true, tidy, unfolded_own, lone_other, held_by, distinct, board_ok, record_ok, gap_ok, holders_in, places_ok, header_ok, masks_ok, rest_ok, state_ok}
use Rattle.state.specs.Bytes.{state_of}
use Rattle.state.specs.Calls.{finished_in, verdict_in, ask_says, sample_says, ready_in, step_says, stepped_to, done_in, close_says}
use Rattle.loading.specs.Load.{load_lengths_ok, load_says}
use Rattle.stars.proofs.States.{board, slot, state, LoadGives, SampleGives, StepGives, CloseGives, close-gives, AskGives}

-- one slot on one board, after so many ticks: the board's record, the slot's, and its nodes
abbrev pub single : ℕ → List ℕ → List ℕ → List ℕ → List ℕ
single ticks on held nodes = state ticks (on ∷ []) (held ∷ []) nodes

-- the board before it has sampled
abbrev pub unsampled : List ℕ
unsampled = board 1 0 0

-- true, as laid after so many ticks
abbrev pub true_laid : ℕ → List ℕ
true_laid ticks = single ticks unsampled (slot 0 0 0 1) (1 ∷ [])

-- true or a, as laid where it is not folded, with this board
abbrev pub or_laid : List ℕ → List ℕ
or_laid on = single 0 on (slot 0 0 0 3) (4 ∷ 1 ∷ 64 ∷ [])

-- the same with its slot stepped
abbrev pub or_stepped : List ℕ → List ℕ
or_stepped on = single 0 on (slot 0 1 0 1) (1 ∷ 0 ∷ 0 ∷ [])

-- a tick of true or a, the board having sampled x: pending until it is closed
pub record OrTick (x : ℕ) : Type 0 where
  pub samples : SampleGives (or_laid unsampled) 0 x (or_laid (board 1 x 1))
  pub steps : StepGives (or_laid (board 1 x 1)) 0 (or_stepped (board 1 x 1))
  pub unclosed : AskGives (or_stepped (board 1 x 1)) Pending 0 1 3
  pub closes : CloseGives (or_stepped (board 1 x 1)) (true_laid 1)

pub record Unsplit : Type 0 where
  -- true is finished when it is loaded: every sample is refused
  pub true-loads : LoadGives (file_of (1 ∷ []) 1 (1 ∷ [])) (true_laid 0)
  pub true-begins : AskGives (true_laid 0) True 0 1 1
  pub true-over : (b bits : ℕ) → sample_says (true_laid 0) b bits ≡ refused 10
  -- so are next true, always true, and true or a, whose constants are folded
  pub next-loads : LoadGives (file_of (1 ∷ []) 1 (5 ∷ 1 ∷ [])) (true_laid 0)
  pub always-loads : LoadGives (file_of (1 ∷ []) 1 (8 ∷ 1 ∷ [])) (true_laid 0)
  pub or-loads : LoadGives (file_of (1 ∷ []) 1 (4 ∷ 1 ∷ 64 ∷ [])) (true_laid 0)
  -- a state that was saved before they were goes on as it did: true or a is pending there, and true after one tick
  pub or-begins : AskGives (or_laid unsampled) Pending 0 1 3
  pub or-under-none : OrTick 0
  pub or-under-a : OrTick 1
  pub or-ends : AskGives (true_laid 1) True 1 1 1

pub unsplit : Unsplit
unfolding pick both either bit in_order left kind_of le le_at sum_to ones_of sum_ones union_with masks_rule same_bool leaf_over over is_formula is_constant joined counts_ok mask_bytes file_of listed offsets_ok highest chosen looked laid load close holds_only stretch_end each_below all_zero each_true tidy unfolded_own lone_other held_by distinct board_ok record_ok gap_ok holders_in places_ok header_ok masks_ok rest_ok form_of board_at sample_given slot_stepped state_ok state_of finished_in verdict_in ask_says sample_says ready_in step_says stepped_to done_in close_says load_lengths_ok load_says negated is_either folded_one folded_two
unsplit =
    record {
      true-loads = record { says = refl; leaves = λ before. refl };
      true-begins = refl;
      true-over = λ b bits. refl;
      next-loads = record { says = refl; leaves = λ before. refl };
      always-loads = record { says = refl; leaves = λ before. refl };
      or-loads = record { says = refl; leaves = λ before. refl };
      or-begins = refl;
      or-under-none = record { samples = record { says = refl; leaves = refl }; steps = record { says = refl; leaves = refl }; unclosed = refl; closes = close-gives _ _ refl refl };
      or-under-a = record { samples = record { says = refl; leaves = refl }; steps = record { says = refl; leaves = refl }; unclosed = refl; closes = close-gives _ _ refl refl };
      or-ends = refl;
    }
