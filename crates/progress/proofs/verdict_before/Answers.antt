-- One law of proofs/Verdicts.antt for each way out. Assumes nothing.
use Rattle.std.proofs.Common.{◌≢◌, arith}
use Rattle.progress.proofs.Verdicts.{before-longer, before-false, before-true, before-else}
use Rattle.progress.proofs.verdict_before.Goals as goal

pub returns-then-nodes-ne1 : goal.returns-then-nodes-ne1
returns-then-nodes-ne1 c = before-longer _ _ c.if-nodes-ne1.true

pub returns-in-0 : goal.returns-in-0
returns-in-0 c = before-false _ _ c.if-nodes-ne1.false c.in-0.is

pub returns-in-1 : goal.returns-in-1
returns-in-1 c = before-true _ _ c.if-nodes-ne1.false c.in-1.is

pub returns-in_default : goal.returns-in_default
returns-in_default c =
    let some : c.args.first ≢ 0 = omega arith in
    let more : c.args.first ≢ 1 = omega arith in
    before-else _ _ c.if-nodes-ne1.false some more
