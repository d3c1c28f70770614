use native.Mathlib.Omega.{arith}
use Rattle.std.proofs.Common.{◌<◌, length}
use Rattle.tokens.proofs.Lines.{spelt-readable}
use Rattle.entering.proofs.Telling.{told_none, told_more, run-readable, runs-alike, runs-apart}
use Rattle.entering.proofs.same_tokens.Goals as goal

pub loop-i-init : goal.loop-i-init
loop-i-init c = told_none _ _ _ _ _

pub alike-requires : goal.alike-requires
alike-requires c =
    let p = c.requires in
    let i = c.loop-i.i in let l : i < length c.args.tokens.now = omega arith in (
      p.marked,
      spelt-readable c.args.bytes.now c.args.marks.now p.left i l,
      run-readable c.args.bytes.now c.args.marks.now c.args.bodies.now c.args.from c.args.tokens.now p i l,
    )

pub returns-then-not-alike : goal.returns-then-not-alike
returns-then-not-alike c = runs-apart _ _ _ _ _ c.requires c.loop-i.i (omega arith) (c.alike.ensures.differ (c.if-not-alike.true))

pub loop-i-preserved : goal.loop-i-preserved
loop-i-preserved c =
    let l = c.loop-i in
    told_more _ _ _ _ _ l.i l.invariant (c.alike.ensures.alike (c.if-not-alike.false))

pub returns : goal.returns
returns c = runs-alike _ _ _ _ _ c.requires c.loop-i.i (omega arith) c.loop-i.invariant
