-- The layout's counts decide; within the limits it is put. Assumes nothing.
use mathlib.Core.Path.{refl, ap, ◌∙◌}
use mathlib.Core.List.{[]}
use Rattle.state.specs.Form.{form_in, slots_most, nodes_most}
use Rattle.limits.specs.Limits.{propositions_most}
use Rattle.scores.proofs.Added.{zeros-few}
use Rattle.beginning.proofs.Layouts.{Cut, LayoutFits, cuts-few, first-ask}
use Rattle.beginning.proofs.Outcomes.{begun-slots, begun-nodes, begun-done}
use native.Mathlib.Omega.{arith}
use Rattle.beginning.proofs.begin.Goals as goal

pub owners-requires : goal.owners-requires
owners-requires c =
    (c.requires.ruled.few-boards, record { long = refl; boards = λ i. (let z = zeros-few propositions_most i in omega arith) })

pub overflow_add-slots : goal.overflow_add-slots
overflow_add-slots c =
    let r = c.requires.ruled in
    let cut : Cut r c.owners.new.owner c.count_cuts.result.part =
    record { owned = c.owners.ensures.owned r.propositions r.few-propositions r.follow; parted = (c.count_cuts.ensures c.requires.rule [] r.front).parted } in
    let w = cuts-few cut in omega arith

pub returns-then-slots_most-slots : goal.returns-then-slots_most-slots
returns-then-slots_most-slots c =
    λ rule r.
    let cut : Cut r c.owners.new.owner c.count_cuts.result.part =
    record { owned = c.owners.ensures.owned r.propositions r.few-propositions r.follow; parted = (c.count_cuts.ensures rule [] r.front).parted } in
    begun-slots _ cut (let l = c.if-slots_most-slots.true in let m = c.slots_most.ensures ∙ ap slots_most c.from-form.ensures in omega arith)

pub returns-then-nodes_most-nodes : goal.returns-then-nodes_most-nodes
returns-then-nodes_most-nodes c =
    λ rule r.
    let cut : Cut r c.owners.new.owner c.count_cuts.result.part =
    record { owned = c.owners.ensures.owned r.propositions r.few-propositions r.follow; parted = (c.count_cuts.ensures rule [] r.front).parted } in
    begun-nodes _ cut (let l = c.if-slots_most-slots.false in let m = c.slots_most.ensures ∙ ap slots_most c.from-form.ensures in omega arith) (c.count_unfolded.ensures rule r.front)
    (let l = c.if-nodes_most-nodes.true in let m = c.nodes_most.ensures ∙ ap nodes_most c.from-form.ensures in omega arith)

pub put_first-requires : goal.put_first-requires
put_first-requires c =
    let r = c.requires.ruled in
    let cut : Cut r c.owners.new.owner c.count_cuts.result.part =
    record { owned = c.owners.ensures.owned r.propositions r.few-propositions r.follow; parted = (c.count_cuts.ensures c.requires.rule [] r.front).parted } in
    let fits : LayoutFits (form_in c.args.state.now) r c.owners.new.owner c.count_cuts.result.part c.count_unfolded.result =
    record {
      cut = cut;
      few-slots = let l = c.if-slots_most-slots.false in let m = c.slots_most.ensures ∙ ap slots_most c.from-form.ensures in omega arith;
      count-is = c.count_unfolded.ensures c.requires.rule r.front;
      few-nodes = let l = c.if-nodes_most-nodes.false in let m = c.nodes_most.ensures ∙ ap nodes_most c.from-form.ensures in omega arith;
    } in
    first-ask c.requires c.owners.ensures.table fits c.first_board-board.ensures refl refl

pub returns : goal.returns
returns c =
    λ rule r.
    let cut : Cut r c.owners.new.owner c.count_cuts.result.part =
    record { owned = c.owners.ensures.owned r.propositions r.few-propositions r.follow; parted = (c.count_cuts.ensures rule [] r.front).parted } in
    let fits : LayoutFits (form_in c.args.state.now) r c.owners.new.owner c.count_cuts.result.part c.count_unfolded.result =
    record {
      cut = cut;
      few-slots = let l = c.if-slots_most-slots.false in let m = c.slots_most.ensures ∙ ap slots_most c.from-form.ensures in omega arith;
      count-is = c.count_unfolded.ensures rule r.front;
      few-nodes = let l = c.if-nodes_most-nodes.false in let m = c.nodes_most.ensures ∙ ap nodes_most c.from-form.ensures in omega arith;
    } in
    begun-done c.args.state.now fits (c.put_first.ensures rule r)
