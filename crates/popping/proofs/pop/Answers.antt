use Rattle.popping.proofs.Pops.{popping-none, popping-more, popped-none, popped-other, popped-loose}
use Rattle.popping.proofs.pop.Goals as goal
use Rattle.popping.proofs.pop.Goals.{then-depths-i-via-then-depths-i, then-depths-i-via-else-depths-i+then-k-j}

pub loop-i-init : goal.loop-i-init
loop-i-init c = popping-none _ _ _ _ _ _ c.requires

pub returns-then-depths-i : goal.returns-then-depths-i
returns-then-depths-i c =
    let p = c.loop-i.invariant in
    let h = c.loop-i-test.true in
    elim c.then-depths-i.branch [
      | then-depths-i-via-then-depths-i w ↦ popped-other p h w.if-depths-i.true
      | then-depths-i-via-else-depths-i+then-k-j w ↦ popped-loose p h w.if-depths-i.false w.if-k-j.true
    ]

pub loop-i-preserved : goal.loop-i-preserved
loop-i-preserved c = popping-more c.loop-i.invariant c.loop-i-test.true c.if-depths-i.false c.if-k-j.false _ c.code_at.ensures

pub returns : goal.returns
returns c = popped-none c.loop-i.invariant c.loop-i-test.false
