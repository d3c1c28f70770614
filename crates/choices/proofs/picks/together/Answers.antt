-- A law of `Joint` for each way out. Assumes nothing.
use Rattle.choices.proofs.Joint.{together-same, together-left, together-right}
use native.Mathlib.Omega.{arith}
use borrow.Author.Rules.{rules}
use Rattle.choices.proofs.picks.together.Goals as goal

pub returns-then-a-b : goal.returns-then-a-b
returns-then-a-b c = (search rules, together-same _ _ _ c.if-a-b.true)

pub returns-then-b-eq-STAYS : goal.returns-then-b-eq-STAYS
returns-then-b-eq-STAYS c = (search rules, together-left _ _ _ c.if-b-eq-STAYS.true)

pub returns-then-a-eq-STAYS : goal.returns-then-a-eq-STAYS
returns-then-a-eq-STAYS c = (search rules, together-right _ _ _ c.if-a-eq-STAYS.true)

pub returns : goal.returns
returns c = (let l = c.choice_or_stays.ensures.1 in omega arith, λ xs ys h k s p q. c.choice_or_stays.ensures.0)
