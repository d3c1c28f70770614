-- One node more than the operands show. Assumes nothing.
use mathlib.Core.Path.{ap, ap₂, ◌∙◌}
use Prim.Native.Nat.{ℕ, ◌+◌, ◌≤◌}
use Rattle.scores.proofs.Added.{sums-few}
use Rattle.cutting.specs.Cuts.{place_by}
use Rattle.tagging.proofs.Packing.{length-fits}
use Rattle.tagging.proofs.Tops.{shown-few, over-scored}
use native.Mathlib.Omega.{arith}
use Rattle.tagging.proofs.over_pair.Goals as goal

pub choice_or_stays-requires : goal.choice_or_stays-requires
choice_or_stays-requires c = rw c.plus-scores.ensures (sums-few _ _ c.requires.1.scores)

pub overflow_add-here : goal.overflow_add-here
overflow_add-here c =
    let left-few : c.shown.result ≤ c.args.a.read = shown-few _ c.requires.1.left c.shown.ensures in
    let x = left-few in let n = c.requires in omega arith

pub overflow_add-here-2 : goal.overflow_add-here-2
overflow_add-here-2 c =
    let left-few : c.shown.result ≤ c.args.a.read = shown-few _ c.requires.1.left c.shown.ensures in
    let right-few : c.shown-2.result ≤ c.args.c.read = shown-few _ c.requires.1.right c.shown-2.ensures in
    let x = left-few in let y = right-few in let n = c.requires in omega arith

pub seal-requires : goal.seal-requires
seal-requires c =
    let left-few : c.shown.result ≤ c.args.a.read = shown-few _ c.requires.1.left c.shown.ensures in
    let right-few : c.shown-2.result ≤ c.args.c.read = shown-few _ c.requires.1.right c.shown-2.ensures in
    let x = left-few in let y = right-few in let n = c.requires in (n.0, length-fits _ (omega arith))

pub returns : goal.returns
returns c =
    let here = ap₂ (λ (x y : ℕ). 1 + x + y) c.shown.ensures c.shown-2.ensures in
    over-scored c.plus-scores.ensures (c.place_of-board.ensures ∙ ap (place_by _) c.choice_or_stays.ensures.0) here c.seal.ensures
