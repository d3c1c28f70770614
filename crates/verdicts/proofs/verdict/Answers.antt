-- The tests in the order of the definition. Assumes nothing.
use borrow.Author.Tests.{ne_eqb}
use Rattle.lists.specs.Tests.{pick}
use Rattle.verdicts.specs.Verdicts.{verdict_byte}
use Rattle.verdicts.proofs.verdict.Goals as goal

pub returns-then-b-eq0 : goal.returns-then-b-eq0
unfolding verdict_byte pick
returns-then-b-eq0 c = rw c.if-b-eq0.true

pub returns-then-b-eq1 : goal.returns-then-b-eq1
unfolding verdict_byte pick
returns-then-b-eq1 c = rw c.if-b-eq1.true

pub returns : goal.returns
unfolding verdict_byte pick
returns c = rw (ne_eqb c.args.b 0 c.if-b-eq0.false, ne_eqb c.args.b 1 c.if-b-eq1.false)
