use Rattle.std.proofs.Common.{sym, ◌∙◌}
use Rattle.owing.proofs.Scans.{owing-begins, owing-over, owing-more, owing-broken, owing-ends}
use Rattle.owing.proofs.is_formula.Goals as goal

pub loop-byte-init : goal.loop-byte-init
loop-byte-init c = owing-begins

pub returns-then-owed-eq0 : goal.returns-then-owed-eq0
returns-then-owed-eq0 c = owing-over c.loop-byte.invariant c.loop-byte-test.true c.if-owed-eq0.true

pub returns-then-not-stands : goal.returns-then-not-stands
returns-then-not-stands c = owing-broken c.loop-byte.invariant c.loop-byte-test.true c.if-owed-eq0.false c.from-k.ensures (sym c.stands.ensures ∙ c.if-not-stands.true)

pub loop-byte-preserved : goal.loop-byte-preserved
loop-byte-preserved c =
    rw c.operands.ensures
    (owing-more c.loop-byte.invariant c.loop-byte-test.true c.if-owed-eq0.false c.from-k.ensures (sym c.stands.ensures ∙ c.if-not-stands.false))

pub returns : goal.returns
returns c = owing-ends c.loop-byte.invariant c.loop-byte-test.false
