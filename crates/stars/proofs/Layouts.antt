-- Worked layouts, those at the limits of slots and nodes among them: the table's rows, `Layouts`, and that they hold, `layouts`. Each is
-- computed from the definitions that the promise of `load` cites. a and b are 64 and 65; a is on board 0, and b on board 1 where there
-- is one. Assumes nothing.
use mathlib.Core.Path.{◌≡◌, refl}
use mathlib.Core.List.{List, [], ◌∷◌, map}
use Prim.Native.Nat.{ℕ, zero, suc}
use lib.ListN.{length}
use Rattle.lists.specs.Tests.{pick, both, bit, either}
use Rattle.lists.specs.Listed.{listed}
use Rattle.answers.specs.Said.{accepted, refused, in_order}
use Rattle.kinds.specs.Kinds.{kind_of}
use Rattle.le.specs.Le.{le, le_at}
use Rattle.masks.specs.Masks.{sum_to, ones_of, sum_ones, union_with, masks_rule}
use Rattle.ltl.specs.Formula.{leaf_over, over, same_bool}
use Rattle.ltl.specs.Decode.{is_formula, formula_of}
use Rattle.ltl.specs.Progression.{is_constant, negated}
use Rattle.folded.specs.Folding.{is_either, folded_one, folded_two, folded}
use Rattle.rules.specs.RuleFile.{counts_ok, mask_bytes, file_of}
use Rattle.rules.specs.Read.{offsets_ok}
use Rattle.network.specs.Scores.{highest, chosen}
use Rattle.network.specs.Layout.{Slot, looked, laid, load}
use Rattle.state.specs.declared.Form.TheVariants.{Plain}
use Rattle.state.specs.Form.{form_of, state_length}
use Rattle.state.specs.Bytes.{nodes_of}
use Rattle.state.specs.Calls.{first_of}
use Rattle.loading.specs.Load.{load_lengths_ok, load_says}

-- the masks of two boards with a proposition each
abbrev pub two_masks : List ℕ
two_masks = 1 ∷ 2 ∷ []

-- the layout of a rule over two boards
abbrev pub over_two : List ℕ → List Slot
over_two rule = first_of two_masks (formula_of rule)

-- the boards of the slots
abbrev pub boards : List Slot → List ℕ
boards slots = map (λ s. s.board) slots

-- an and-chain of n copies of a or b, and one more
abbrev pub copies : ℕ → List ℕ
copies zero = 4 ∷ 64 ∷ 65 ∷ []
copies (suc n) = 3 ∷ 4 ∷ 64 ∷ 65 ∷ copies n

-- n times always, then this byte
abbrev pub always : ℕ → ℕ → List ℕ
always zero b = b ∷ []
always (suc n) b = 8 ∷ always n b

-- an and-chain of n copies of always (eventually b and (false until a)), and one more
abbrev pub false_copies : ℕ → List ℕ
false_copies zero = 8 ∷ 3 ∷ 7 ∷ 65 ∷ 6 ∷ 0 ∷ 64 ∷ []
false_copies (suc n) = 3 ∷ 8 ∷ 3 ∷ 7 ∷ 65 ∷ 6 ∷ 0 ∷ 64 ∷ false_copies n

-- a layout has so many slots and nodes
pub record LayoutCounted (slots : List Slot) (s n : ℕ) : Type 0 where
  pub slots-are : length slots ≡ s
  pub nodes-are : nodes_of slots ≡ n

pub record Layouts : Type 0 where
  -- copies made by unfolding count, and what stands under next counts as it stands
  pub until-ever : boards (over_two (6 ∷ 64 ∷ 7 ∷ 65 ∷ [])) ≡ 1 ∷ 0 ∷ []
  -- a tie goes to the lowest board, even where the slot's own is among the tied
  pub tie : LayoutCounted (over_two (3 ∷ 65 ∷ 3 ∷ 64 ∷ 65 ∷ [])) 3 7
  -- a next that is an operand may be cut, whole
  pub next : LayoutCounted (over_two (3 ∷ 64 ∷ 5 ∷ 65 ∷ [])) 2 5
  -- 63 copies need all the slots that there are, and 64 one more
  pub copies-most : LayoutCounted (over_two (copies 62)) 64 314
  pub copies-load : load_says (file_of two_masks 2 (copies 62)) (state_length Plain) ≡ accepted []
  pub copies-over : load_says (file_of two_masks 2 (copies 63)) (state_length Plain) ≡ refused 7
  -- 87 times always has room, and 88 times has not
  pub always-most : LayoutCounted (first_of (1 ∷ []) (formula_of (always 87 64))) 1 4090
  pub always-load : load_says (file_of (1 ∷ []) 1 (always 87 64)) (state_length Plain) ≡ accepted []
  pub always-over : load_says (file_of (1 ∷ []) 1 (always 88 64)) (state_length Plain) ≡ refused 8
  -- of true any number has: it folds to true
  pub always-true : load_says (file_of (1 ∷ []) 1 (always 88 1)) (state_length Plain) ≡ accepted []
  -- folding may ask for more slots: these 32 copies have 33 as written, 65 when folded, and are refused
  pub false-written : length (over_two (false_copies 31)) ≡ 33
  pub false-folded : length (first_of two_masks (folded (formula_of (false_copies 31)))) ≡ 65
  pub false-over : load_says (file_of two_masks 2 (false_copies 31)) (state_length Plain) ≡ refused 7

pub layouts : Layouts
unfolding pick both bit in_order kind_of le le_at sum_to ones_of sum_ones union_with masks_rule leaf_over over is_formula counts_ok mask_bytes file_of listed offsets_ok highest chosen looked laid load form_of load_lengths_ok load_says either is_constant same_bool negated is_either folded_one folded_two
layouts =
    record {
      until-ever = refl;
      tie = record { slots-are = refl; nodes-are = refl };
      next = record { slots-are = refl; nodes-are = refl };
      copies-most = record { slots-are = refl; nodes-are = refl };
      copies-load = refl;
      copies-over = refl;
      always-most = record { slots-are = refl; nodes-are = refl };
      always-load = refl;
      always-over = refl;
      always-true = refl;
      false-written = refl;
      false-folded = refl;
      false-over = refl;
    }
