-- A slot counts itself, its cuts and its nodes, and what it holds. Assumes nothing.
use Prim.Native.Nat.{◌+◌, ◌*◌, ◌<◌}
use Rattle.limits.specs.Limits.{nodes_room}
use Rattle.nodes.proofs.Fronts.{front-begins}
use Rattle.counting.proofs.Slots.{cuts-few, own-few, counts-on}
use native.Mathlib.Omega.{arith}
use Rattle.counting.proofs.count_formula.Goals as goal

pub count_cuts-cuts-requires : goal.count_cuts-cuts-requires
count_cuts-cuts-requires c = let p = c.requires in (front-begins p.front, p.table, p.few)

pub overflow_add-own_slots : goal.overflow_add-own_slots
overflow_add-own_slots c = let x = cuts-few c.requires c.count_cuts-cuts.result c.count_cuts-cuts.ensures in omega arith

pub count_unfolded-requires : goal.count_unfolded-requires
count_unfolded-requires c = let p = c.requires in record { formula = p.formula; front = p.front; few = p.few }

pub overflow_add-own_nodes : goal.overflow_add-own_nodes
overflow_add-own_nodes c =
    let own : let k = c.count_cuts-cuts in k.result.part.cuts + c.count_unfolded.result < 4101 * (nodes_room + 1) = let k = c.count_cuts-cuts in let n = c.count_unfolded in own-few c.requires k.result k.ensures n.result n.ensures in
    let x = own in omega arith

pub held_by-requires : goal.held_by-requires
held_by-requires c = let p = c.requires in (p.tables, p.holds)

pub together-requires : goal.together-requires
together-requires c =
    let own : let k = c.count_cuts-cuts in k.result.part.cuts + c.count_unfolded.result < 4101 * (nodes_room + 1) = let k = c.count_cuts-cuts in let n = c.count_unfolded in own-few c.requires k.result k.ensures n.result n.ensures in
    let x = own in let h = c.held_by.ensures in (omega arith, omega arith)

pub returns : goal.returns
returns c =
    let p = c.requires in
    let k = c.count_cuts-cuts in let n = c.count_unfolded in let h = c.held_by in let t = c.together in
    counts-on p k.result k.ensures n.result n.ensures
    h.result t.result h.ensures t.ensures.0 t.ensures.1
