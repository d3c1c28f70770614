-- One node more than the operand shows. Assumes nothing.
use mathlib.Core.Path.{refl, ap, ◌∙◌}
use Prim.Native.Nat.{◌+◌, ◌≤◌}
use Rattle.cutting.specs.Cuts.{place_by}
use Rattle.tagging.proofs.Packing.{length-fits}
use Rattle.tagging.proofs.Tops.{shown-few, over-scored}
use native.Mathlib.Omega.{arith}
use Rattle.tagging.proofs.over_not.Goals as goal

pub overflow_add-shown : goal.overflow_add-shown
overflow_add-shown c =
    let few : c.shown.result ≤ c.args.a.read = shown-few _ c.requires.1.part c.shown.ensures in
    let x = few in let n = c.requires in omega arith

pub seal-requires : goal.seal-requires
seal-requires c =
    let few : c.shown.result ≤ c.args.a.read = shown-few _ c.requires.1.part c.shown.ensures in
    let x = few in let n = c.requires in (n.0, length-fits _ (omega arith))

pub returns : goal.returns
returns c = over-scored refl (c.place_of-board.ensures ∙ ap (place_by _) c.requires.1.board-is) (ap (1 +◌) c.shown.ensures) c.seal.ensures
