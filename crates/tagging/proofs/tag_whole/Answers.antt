-- Its length is that of the formula that was read. Assumes nothing.
use mathlib.Core.Path.{ap, ◌∙◌}
use Prim.Native.Nat.{◌≤◌}
use Rattle.limits.specs.Limits.{nodes_room}
use Rattle.ltl.specs.Formula.{size}
use Rattle.nodes.proofs.Fronts.{front_length}
use Rattle.cutting.specs.Cuts.{place_by}
use Rattle.tagging.proofs.Packing.{length-fits}
use Rattle.tagging.proofs.Tops.{whole-over}
use Rattle.tagging.proofs.Walks.{asks-some}
use native.Mathlib.Omega.{arith}
use Rattle.tagging.proofs.tag_whole.Goals as goal

pub choice_or_stays-requires : goal.choice_or_stays-requires
choice_or_stays-requires c =
    λ i. let few : size c.requires.0.formula ≤ nodes_room = let l = front_length _ _ _ c.requires.0.front in omega arith in
    let x = few in
    let n = (c.tally-t.ensures _ _ c.requires.0.front).1.few i in omega arith

pub seal-requires : goal.seal-requires
seal-requires c =
    let few : size c.requires.0.formula ≤ nodes_room = let l = front_length _ _ _ c.requires.0.front in omega arith in
    let x = few in
    let n = (c.tally-t.ensures _ _ c.requires.0.front).0 in (asks-some c.args.tags.now c.requires, length-fits _ (omega arith))

pub returns : goal.returns
returns c =
    λ f rest y.
    whole-over (c.tally-t.ensures f rest y) (c.place_of-board.ensures ∙ ap (place_by _) c.choice_or_stays.ensures.0) c.seal.ensures
