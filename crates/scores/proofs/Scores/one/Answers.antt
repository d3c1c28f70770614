use Rattle.std.proofs.Common.{◌≡◌, ◌∙◌, arith}
use Rattle.limits.specs.Limits.{boards_most}
use Rattle.scores.proofs.Alone.{alone-none, alone-own, alone-other, alone-all}
use Rattle.scores.proofs.Scores.one.Goals as goal
use Rattle.scores.proofs.Scores.one.Goals.{then-b-own, else-b-own}

pub loop-b-init : goal.loop-b-init
loop-b-init c = alone-none _

pub returns : goal.returns
returns c =
    let e : c.loop-b.b ≡ boards_most = omega arith in
    c.loop-b.invariant ∙ rw e (alone-all c.args.board c.requires)

pub loop-b-preserved : goal.loop-b-preserved
loop-b-preserved c =
    let own = c.args.board in
    let b = c.loop-b.b in
    rw c.loop-b.invariant (elim c.if-b-own.branch [
      | then-b-own w ↦ rw w.counts-is (alone-own own b w.if-b-own.true)
      | else-b-own w ↦ rw w.counts-is (alone-other own b w.if-b-own.false)
    ])
