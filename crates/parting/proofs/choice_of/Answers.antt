-- The mark of the part's node has a choice for each part; a law for each. Assumes nothing.
use mathlib.Core.Path.{◌∙◌}
use Rattle.parting.proofs.Choosing.{choice-node, choice-later, choice-again}
use Rattle.parting.proofs.choice_of.Goals as goal

pub returns-then-which-eq-NODE : goal.returns-then-which-eq-NODE
returns-then-which-eq-NODE c = λ choose bytes f p. c.choice_of.ensures.0 ∙ choice-node choose bytes _ _ f p c.if-which-eq-NODE.true

pub returns-then-which-eq-LATER : goal.returns-then-which-eq-LATER
returns-then-which-eq-LATER c = λ choose bytes f p. c.later_of.ensures.0 ∙ choice-later choose bytes _ _ f p c.if-which-eq-LATER.true

pub returns : goal.returns
returns c = λ choose bytes f p. c.again_of.ensures.0 ∙ choice-again choose bytes _ _ f p c.if-which-eq-NODE.false c.if-which-eq-LATER.false
