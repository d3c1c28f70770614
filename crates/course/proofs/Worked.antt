-- A run that stops late with 9: one slot, a and next next b, on the board of a, which is handed in. Its first event is closed and leaves
-- next b there; the step of the second leaves b alone, which is not in that board's mask: `late-nine`. A run that stops at a verdict, with
-- an event left over: `at_once`. Assumes nothing.
use mathlib.Core.Path.{◌≡◌, refl}
use mathlib.Core.Bool.{true}
use mathlib.Core.List.{List, [], ◌∷◌}
use Prim.Native.Nat.{ℕ}
use Rattle.lists.specs.Tests.{pick, both, either, bit}
use Rattle.lists.specs.Listed.{listed}
use Rattle.answers.specs.Said.{left, in_order}
use Rattle.kinds.specs.declared.Join.TheVariants.{And}
use Rattle.kinds.specs.declared.Leaf.TheVariants.{Prop}
use Rattle.kinds.specs.declared.Unary.TheVariants.{Next}
use Rattle.kinds.specs.declared.Binary.TheVariants.{Joined}
use Rattle.kinds.specs.Kinds.{kind_of}
use Rattle.le.specs.Le.{le, le_at}
use Rattle.ltl.specs.Formula.{Formula, leaf, one, two, constant, same_bool, same_leaf, same, leaf_over, over}
use Rattle.ltl.specs.Progression.{is_constant, negated, member, joined}
use Rattle.masks.specs.Masks.{sum_to, ones_of, sum_ones, union_with, masks_rule}
use Rattle.network.specs.Scores.{highest, chosen}
use Rattle.network.specs.Layout.{looked, laid, relaid, close}
use Rattle.network.specs.Tick.{holds_only}
use Rattle.state.specs.declared.Form.TheVariants.{Plain}
use Rattle.state.specs.Form.{form_of, board_at}
use Rattle.state.specs.Writes.{sample_given, slot_stepped}
use Rattle.state.specs.Fields.{stretch_end}
use Rattle.state.specs.Clauses.{each_below, all_zero, each_true, tidy, unfolded_own, lone_other, held_by, among, distinct, board_ok, record_ok, gap_ok, holders_in, places_ok, header_ok, masks_ok, rest_ok, state_ok}
use Rattle.state.specs.Bytes.{state_of}
use Rattle.state.specs.Calls.{finished_in, sample_says, ready_in, step_says, stepped_to, done_in, close_says}
use Rattle.course.specs.Given.{follow, sampled_from, stepped_below, taken_by, given_under}
use Rattle.course.specs.Ticked.{tick_says}
use Rattle.course.specs.Course.{coursed}

-- a on board 0, b on board 1; one slot on board 0
abbrev on_board : Formula → ℕ → List ℕ
on_board f ticks = state_of Plain (1 ∷ 2 ∷ []) (record { board = 0; formula = f } ∷ []) ticks

abbrev a : Formula
a = leaf (Prop 0)

abbrev b : Formula
b = leaf (Prop 1)

pub late-nine : coursed (on_board (two (Joined And) a (one Next (one Next b))) 0) (1 ∷ 0 ∷ []) ≡ record { closed = 1; refusal = 9; leaves = on_board (one Next b) 1 }
unfolding coursed tick_says given_under taken_by stepped_below sampled_from follow pick both either bit left in_order kind_of le le_at same_bool same_leaf same leaf_over over is_constant negated member joined sum_to ones_of sum_ones union_with masks_rule highest chosen looked laid relaid close holds_only listed stretch_end each_below all_zero each_true tidy unfolded_own lone_other held_by among distinct board_ok record_ok gap_ok holders_in places_ok header_ok masks_ok rest_ok form_of board_at sample_given slot_stepped state_ok state_of finished_in sample_says ready_in step_says stepped_to done_in close_says
late-nine = refl

pub at_once : coursed (on_board a 0) (1 ∷ 1 ∷ []) ≡ record { closed = 1; refusal = 0; leaves = on_board (constant true) 1 }
unfolding coursed tick_says given_under taken_by stepped_below sampled_from follow pick both either bit left in_order kind_of le le_at same_bool same_leaf same leaf_over over is_constant negated member joined sum_to ones_of sum_ones union_with masks_rule highest chosen looked laid relaid close holds_only listed stretch_end each_below all_zero each_true tidy unfolded_own lone_other held_by among distinct board_ok record_ok gap_ok holders_in places_ok header_ok masks_ok rest_ok form_of board_at sample_given slot_stepped state_ok state_of finished_in sample_says ready_in step_says stepped_to done_in close_says
at_once = refl
