use mathlib.Core.Path.{sym, ◌∙◌}
use lib.ListN.{get_or}
use Rattle.scores.proofs.Assigned.{assigned-more, assigned-done, owns}
use native.Mathlib.Omega.{arith}
use Rattle.scores.proofs.owners.Goals as goal

pub returns : goal.returns
returns c =
    let d = c.loop-board in
    let masks = c.args.masks.now in
    owns masks c.args.owner.now d.owner c.requires.0 c.requires.1 (omega arith)
    (λ i. sym (assigned-done (get_or d.owner i 0) d.board masks i (omega arith)) ∙ d.invariant i)

pub loop-board-preserved : goal.loop-board-preserved
loop-board-preserved c =
    let d = c.loop-board in
    let masks = c.args.masks.now in
    λ i. rw (c.own.ensures i) (assigned-more (get_or d.owner i 0) d.board masks i (omega arith)) ∙ d.invariant i
