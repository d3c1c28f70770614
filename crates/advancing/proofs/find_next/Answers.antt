-- The counts of the new layout are held against the limits of the state's form. Assumes nothing.
use mathlib.Core.Path.{◌≡◌, ap, ◌∙◌}
use Prim.Native.Nat.{◌≤◌}
use Rattle.state.specs.Form.{form_in, slots_most, nodes_most}
use Rattle.advancing.proofs.Advancing.{found-slots, found-nodes, found_within}
use native.Mathlib.Omega.{arith}
use Rattle.advancing.proofs.find_next.Goals as goal

pub returns-then-slots_most-next : goal.returns-then-slots_most-next
returns-then-slots_most-next c =
    let most-slots : c.slots_most.result ≡ slots_most (form_in c.args.state.now) = c.slots_most.ensures ∙ ap slots_most c.from-form.ensures in
    found-slots _ c.count_next-next.ensures (let l = c.if-slots_most-next.true in let e = most-slots in omega arith)

pub returns-then-nodes_most-next : goal.returns-then-nodes_most-next
returns-then-nodes_most-next c =
    let most-slots : c.slots_most.result ≡ slots_most (form_in c.args.state.now) = c.slots_most.ensures ∙ ap slots_most c.from-form.ensures in
    let few-slots : c.count_next-next.result.slots ≤ slots_most (form_in c.args.state.now) = let l = c.if-slots_most-next.false in let m = most-slots in omega arith in
    let most-nodes : c.nodes_most.result ≡ nodes_most (form_in c.args.state.now) = c.nodes_most.ensures ∙ ap nodes_most c.from-form.ensures in
    found-nodes _ c.count_next-next.ensures (few-slots) (let l = c.if-nodes_most-next.true in let e = most-nodes in omega arith)

pub returns : goal.returns
returns c =
    let most-slots : c.slots_most.result ≡ slots_most (form_in c.args.state.now) = c.slots_most.ensures ∙ ap slots_most c.from-form.ensures in
    let few-slots : c.count_next-next.result.slots ≤ slots_most (form_in c.args.state.now) = let l = c.if-slots_most-next.false in let m = most-slots in omega arith in
    let most-nodes : c.nodes_most.result ≡ nodes_most (form_in c.args.state.now) = c.nodes_most.ensures ∙ ap nodes_most c.from-form.ensures in
    found_within _ c.count_next-next.ensures (few-slots) (let l = c.if-nodes_most-next.false in let e = most-nodes in omega arith)
