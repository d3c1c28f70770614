-- The node without brackets, and in brackets. Assumes nothing.
use native.Mathlib.Omega.{arith}
use Rattle.showing.proofs.Nodes.{plain-showing, open-space, open-showing}
use Rattle.showing.proofs.put_pair.Goals as goal

pub returns-then-own-level : goal.returns-then-own-level
returns-then-own-level c f g gs whole x = plain-showing x c.level_of-own.ensures c.if-own-level.true

pub bounds-text-at : goal.bounds-text-at
bounds-text-at c = open-space c.requires.showing (omega arith)

pub returns : goal.returns
returns c = λ f g gs whole x. open-showing x (omega arith) c.level_of-own.ensures
