-- The scores added, and both parts looked at by the board that they are laid on. Assumes nothing.
use mathlib.Core.Path.{ap, ap₂, ◌∙◌}
use Prim.Native.Nat.{◌+◌}
use Rattle.scores.proofs.Added.{sums-few}
use Rattle.cutting.specs.Cuts.{place_by, looked_cuts}
use Rattle.cutting.proofs.Looking.{cut-few}
use native.Mathlib.Omega.{arith}
use Rattle.cutting.proofs.joined.Goals as goal

pub choice_or_stays-choice-requires : goal.choice_or_stays-choice-requires
choice_or_stays-choice-requires c = rw c.plus-scores.ensures (sums-few _ _ c.requires.scores)

pub overflow_add-result : goal.overflow_add-result
overflow_add-result c =
    let a = c.args in let board = c.place_of-board.result in
    let f = cut-few a.a.choice board in let g = cut-few a.b.choice board in omega arith

pub returns : goal.returns
returns c =
    let a = c.args in
    let e = c.place_of-board.ensures ∙ ap (place_by _) c.choice_or_stays-choice.ensures.0 in
    record {
      scores = c.plus-scores.ensures;
      choice-is = c.choice_or_stays-choice.ensures.0;
      cuts = ap₂ ◌+◌ (c.looked.ensures ∙ ap (looked_cuts a.a) e) (c.looked-2.ensures ∙ ap (looked_cuts a.b) e);
    }
