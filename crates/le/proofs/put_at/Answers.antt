use Rattle.std.proofs.Common.{◌≡◌, ◌+◌, sym, ◌∙◌, arith}
use Rattle.le.proofs.Laws.{spliced-turn, spliced-none}
use Rattle.le.proofs.put_at.Goals as goal

pub loop-k-preserved : goal.loop-k-preserved
loop-k-preserved c = spliced-turn c.loop-k.s _ _ _ _ c.loop-k-test.true (omega arith) ∙ c.loop-k.invariant

pub returns : goal.returns
returns c =
    let e : c.loop-k.k ≡ c.args.w = omega arith in
    sym (spliced-none c.loop-k.s (c.args.at + c.args.w) _ _ (omega arith)) ∙ rw e at c.loop-k.invariant
