-- A byte from 9 on, by its range. Assumes nothing.
use Rattle.std.proofs.Common.{sym}
use Rattle.kinds.proofs.Codes.{kind-low, kind-prop, kind-hold, kind-high}
use Rattle.kinds.proofs.Kind.of_range.Goals as goal

pub returns-then-b-lt-PROP : goal.returns-then-b-lt-PROP
returns-then-b-lt-PROP c = sym (kind-low _ c.requires c.if-b-lt-PROP.true)

pub returns-then-b-lt-HOLD : goal.returns-then-b-lt-HOLD
returns-then-b-lt-HOLD c = sym (kind-prop _ c.if-b-lt-PROP.false c.if-b-lt-HOLD.true)

pub returns-then-b-lt-END : goal.returns-then-b-lt-END
returns-then-b-lt-END c = sym (kind-hold _ c.if-b-lt-HOLD.false c.if-b-lt-END.true)

pub returns : goal.returns
returns c = sym (kind-high _ c.if-b-lt-END.false)
