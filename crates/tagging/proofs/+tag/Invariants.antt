-- The bytes begin with a formula, and its first byte's kind says which operands stand behind it; each part lent is there, begins
-- with an operand, and is shorter. The tag on top of the operands' is a function of its own. Assumes nothing.
use lib.ListN.{length}
use Rattle.tagging.proofs.+tag.Given as goal

abbrev pub decreases-tag : goal.decreases-tag
decreases-tag l = length l.u.now
