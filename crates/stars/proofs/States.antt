-- States as the table of worked values writes them, by the fields of their boards and slots, and what its rows say of a call on one.
-- Assumes nothing.
use mathlib.Core.Path.{◌≡◌, ap, ◌∙◌}
use mathlib.Core.List.{List, [], ◌∷◌, ◌++◌}
use Prim.Native.Nat.{ℕ, ◌+◌}
use lib.ListN.{length}
use Rattle.lists.specs.Tests.{pick}
use Rattle.lists.specs.Runs.{padded}
use Rattle.answers.specs.Said.{Said, accepted, refused, left, number_of, verdict_number}
use Rattle.answers.specs.declared.Refusal.{Refusal}
use Rattle.answers.specs.declared.Verdict.{Verdict}
use Rattle.answers.proofs.Answers.{left-refused}
use Rattle.le.specs.Le.{le}
use Rattle.rules.specs.RuleFile.{masks_in_file}
use Rattle.state.specs.declared.Form.TheVariants.{Plain}
use Rattle.state.specs.Form.{form_in, state_length}
use Rattle.state.specs.Fields as fields
use Rattle.state.specs.Fields.{ticks_in}
use Rattle.state.specs.Bytes.{state_header, state_of}
use Rattle.state.specs.Calls.{ask_says, sample_says, sample_leaves, step_says, step_leaves, next_in, close_says, close_leaves, loaded_state}
use Rattle.loading.specs.Load.{start_in, load_says}

-- ---- a state's bytes
-- a board: its mask, its sample, and whether it has sampled
abbrev pub board : ℕ → ℕ → ℕ → List ℕ
board mask sample sampled = le 8 mask ++ (le 8 sample ++ (sampled ∷ []))

-- a slot: its board, whether it is stepped, its start and its length
abbrev pub slot : ℕ → ℕ → ℕ → ℕ → List ℕ
slot on stepped start long = on ∷ stepped ∷ (le 2 start ++ le 2 long)

-- records one behind the other
abbrev pub together : List (List ℕ) → List ℕ
together [] = []
together (r ∷ rs) = r ++ together rs

-- the whole buffer
abbrev pub state : ℕ → List (List ℕ) → List (List ℕ) → List ℕ → List ℕ
state ticks boards slots nodes =
    padded (state_length Plain) (state_header Plain (length boards) (length slots) (length nodes) ticks ++ (together boards ++ (together slots ++ nodes)))

-- ---- calls that are accepted, and what they leave
-- loading the file, whatever the lent state held
pub record LoadGives (file after : List ℕ) : Type 0 where
  pub says : load_says file (state_length Plain) ≡ accepted []
  pub leaves : (before : List ℕ) → left (load_says file (state_length Plain)) (loaded_state Plain (masks_in_file file) (start_in file)) before ≡ after

-- a board gives its sample
pub record SampleGives (before : List ℕ) (board bits : ℕ) (after : List ℕ) : Type 0 where
  pub says : sample_says before board bits ≡ accepted []
  pub leaves : sample_leaves before board bits ≡ after

-- a slot is stepped
pub record StepGives (before : List ℕ) (slot : ℕ) (after : List ℕ) : Type 0 where
  pub says : step_says before slot ≡ accepted []
  pub leaves : step_leaves before slot ≡ after

-- the tick is closed, whatever the second buffer held
pub record CloseGives (before after : List ℕ) : Type 0 where
  pub says : close_says before (state_length (form_in before)) ≡ accepted []
  pub leaves : (second : List ℕ) → length second ≡ state_length (form_in before) → close_leaves before second ≡ after

pub close-gives : (before after : List ℕ) → close_says before (state_length (form_in before)) ≡ accepted [] → state_of (form_in before) (fields.masks_in before) (next_in before) (ticks_in before + 1) ≡ after
    → CloseGives before after
unfolding left pick
close-gives before after e f =
    record {
      says = e;
      leaves = λ second long.
          let next = state_of (form_in before) (fields.masks_in before) (next_in before) (ticks_in before + 1) in
          ap (λ (n : ℕ). left (close_says before n) next second) long ∙ ap (λ (x : Said). left x next second) e ∙ f;
    }

-- ---- calls that are refused with a number, and leave what they were lent
-- loading the file, whatever the lent state held
pub record LoadRefuses (file : List ℕ) (number : ℕ) : Type 0 where
  pub says : load_says file (state_length Plain) ≡ refused number
  pub leaves : (before : List ℕ) → left (load_says file (state_length Plain)) (loaded_state Plain (masks_in_file file) (start_in file)) before ≡ before

-- closing the tick, whatever the second buffer held
pub record CloseRefuses (before : List ℕ) (number : ℕ) : Type 0 where
  pub says : close_says before (state_length (form_in before)) ≡ refused number
  pub leaves : (second : List ℕ) → length second ≡ state_length (form_in before) → close_leaves before second ≡ second

pub close-refuses : (before : List ℕ) (why : Refusal) → close_says before (state_length (form_in before)) ≡ refused (number_of why) → CloseRefuses before (number_of why)
close-refuses before why e =
    record {
      says = e;
      leaves = λ second long.
          let next = state_of (form_in before) (fields.masks_in before) (next_in before) (ticks_in before + 1) in
          ap (λ (n : ℕ). left (close_says before n) next second) long ∙ ap (λ (x : Said). left x next second) e ∙ left-refused why next second;
    }

-- ---- how the watch stands: the verdict, ticks, slots and nodes
abbrev pub AskGives : List ℕ → Verdict → ℕ → ℕ → ℕ → Type 0
AskGives s verdict ticks slots nodes = ask_says s ≡ accepted (verdict_number verdict ∷ ticks ∷ slots ∷ nodes ∷ [])
