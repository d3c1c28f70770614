-- A watch of a until b over two boards, in which b comes at once: `until-watch`. It is closed to the verdict true, so that whatever comes
-- then the rule is met (`until-met`). And why a watch has to begin from a rule: a step of a handed state may leave one that does not pass
-- its check (`handed-fails`). Assumes nothing.
use mathlib.Core.Path.{◌≡◌, refl}
use mathlib.Core.Bool.{true, false}
use mathlib.Core.List.{List, [], ◌∷◌}
use Prim.Native.Nat.{ℕ, zero, suc}
use native.Mathlib.Omega.{arith}
use lib.ListN.{replicate}
use Rattle.lists.specs.Tests.{pick, both, either, bit}
use Rattle.lists.specs.Listed.{listed}
use Rattle.answers.specs.Said.{accepted, left, in_order}
use Rattle.kinds.specs.declared.Leaf.TheVariants.{Prop}
use Rattle.kinds.specs.declared.Unary.TheVariants.{Next}
use Rattle.kinds.specs.declared.Binary.TheVariants.{Until}
use Rattle.kinds.specs.Kinds.{kind_of}
use Rattle.le.specs.Le.{le, le_at}
use Rattle.ltl.specs.Formula.{Formula, leaf, one, two, same_bool, same_leaf, same, leaf_over, over}
use Rattle.ltl.specs.Meaning.{Trace, Satisfies, continued}
use Rattle.ltl.specs.Progression.{is_constant, negated, member, joined}
use Rattle.masks.specs.Masks.{sum_to, ones_of, sum_ones, union_with, masks_rule}
use Rattle.network.specs.Scores.{highest, chosen, sample_of}
use Rattle.network.specs.Layout.{looked, laid, load, relaid, close}
use Rattle.network.specs.Tick.{holds_only}
use Rattle.state.specs.declared.Form.TheVariants.{Plain}
use Rattle.state.specs.Form.{form_of, state_length, board_at}
use Rattle.state.specs.Writes.{sample_given, slot_stepped}
use Rattle.state.specs.Fields.{boards_in, stretch_end}
use Rattle.state.specs.Clauses.{each_below, all_zero, each_true, tidy, unfolded_own, lone_other, held_by, among, distinct, board_ok, record_ok, gap_ok, holders_in, places_ok, header_ok, masks_ok, rest_ok, state_ok}
use Rattle.state.specs.Bytes.{state_of}
use Rattle.state.specs.Calls.{finished_in, sample_says, sample_leaves, ready_in, step_says, stepped_to, step_leaves, done_in, close_says, close_leaves, loaded_state}
use Rattle.watching.specs.Watch.{Loads, none, sample, step, Saw, StateWatch, begun, ticked}
use Rattle.watching.proofs.Demand.{watch-verdict, watch-true}

abbrev rule : Formula
rule = two Until (leaf (Prop 0)) (leaf (Prop 1))

loads : Loads Plain 2 (1 ∷ 2 ∷ []) rule
unfolding pick both bit sum_to ones_of sum_ones union_with masks_rule highest chosen looked laid load
loads =
    record {
      some-propositions = omega arith;
      few-propositions = omega arith;
      some-boards = omega arith;
      few-boards = omega arith;
      follow = refl;
      within = (omega arith, omega arith);
      few-slots = omega arith;
      few-nodes = omega arith;
    }

-- board 0 sees nothing, board 1 sees b; slot 1 first, then slot 0
pub answered : List ℕ
answered = step_leaves (step_leaves (sample_leaves (sample_leaves (loaded_state Plain (1 ∷ 2 ∷ []) rule) 0 0) 1 2) 1) 0

pub closed : List ℕ
closed = close_leaves answered (replicate (state_length Plain) 7)

saw : Saw answered 2
unfolding answered pick both either bit left in_order kind_of le le_at same_bool same_leaf same leaf_over over is_constant negated member joined sum_to ones_of sum_ones union_with masks_rule highest chosen sample_of looked laid load relaid close holds_only listed stretch_end each_below all_zero each_true tidy unfolded_own lone_other held_by among distinct board_ok record_ok gap_ok holders_in places_ok header_ok masks_ok rest_ok form_of board_at sample_given slot_stepped state_ok state_of finished_in sample_says ready_in step_says stepped_to done_in close_says
saw zero l = refl
saw (suc zero) l = refl
saw (suc (suc b)) l = let e : boards_in answered ≡ 2 = refl in absurd (omega arith)

pub until-watch : StateWatch 2 (1 ∷ 2 ∷ []) rule (2 ∷ []) closed
unfolding answered closed pick both either bit left in_order kind_of le le_at same_bool same_leaf same leaf_over over is_constant negated member joined sum_to ones_of sum_ones union_with masks_rule highest chosen looked laid load relaid close holds_only listed stretch_end each_below all_zero each_true tidy unfolded_own lone_other held_by among distinct board_ok record_ok gap_ok holders_in places_ok header_ok masks_ok rest_ok form_of board_at sample_given slot_stepped state_ok state_of finished_in sample_says ready_in step_says stepped_to done_in close_says
until-watch = ticked (begun loads) 2 (record { last = answered; calls = step (step (sample (sample none 0 0) 1 2) 1) 0; saw = saw; second = replicate (state_length Plain) 7; closes = refl; leaves = refl })

pub until-met : (w : Trace) → Satisfies (continued (2 ∷ []) w) rule
unfolding pick either bit same_bool is_constant joined
until-met = watch-true 2 (1 ∷ 2 ∷ []) rule (2 ∷ []) closed until-watch (watch-verdict 2 (1 ∷ 2 ∷ []) rule (2 ∷ []) closed until-watch)

-- ---- a state that no rule leads to: one slot on board 0 with next b, b being board 1's
pub handed : List ℕ
handed = state_of Plain (1 ∷ 2 ∷ []) (record { board = 0; formula = one Next (leaf (Prop 1)) } ∷ []) 0

-- it passes its check, its step is accepted, and what that leaves does not pass
pub record Handed : Type 0 where
  pub passes : state_ok handed ≡ true
  pub steps : step_says (sample_leaves handed 0 0) 0 ≡ accepted []
  pub fails : state_ok (step_leaves (sample_leaves handed 0 0) 0) ≡ false

pub handed-fails : Handed
unfolding handed pick both either bit left in_order kind_of le le_at same_bool same_leaf same leaf_over over is_constant negated member joined sum_to ones_of sum_ones union_with masks_rule highest chosen looked laid load relaid close holds_only listed stretch_end each_below all_zero each_true tidy unfolded_own lone_other held_by among distinct board_ok record_ok gap_ok holders_in places_ok header_ok masks_ok rest_ok form_of board_at sample_given slot_stepped state_ok state_of finished_in sample_says ready_in step_says stepped_to done_in close_says
handed-fails = record { passes = refl; steps = refl; fails = refl }
