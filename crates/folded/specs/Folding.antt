-- Constants folded: what a rule becomes before it is split, or progressed in one place. A node with a constant operand becomes what that
-- constant makes of it, everywhere, below temporal operators too. The member rule has no part in it. Assumes nothing: these are definitions.
use Rattle.std.specs.Prelude.{Bool, true, false}
use Rattle.lists.specs.Tests.{pick, either}
use Rattle.kinds.specs.declared.Unary.{Unary}
use Rattle.kinds.specs.declared.Unary.TheVariants.{Not, Next, Ever}
use Rattle.kinds.specs.declared.Binary.{Binary}
use Rattle.kinds.specs.declared.Binary.TheVariants.{Joined, Until}
use Rattle.ltl.specs.Formula.{Formula, leaf, one, two, join}
use Rattle.ltl.specs.Progression.{is_constant, negated, by_constants}

-- a formula that is one of the constants
unfoldable pub is_either : Formula → Bool
is_either f = either (is_constant true f) (is_constant false f)

-- not of a constant is the other constant; next, eventually and always of a constant are that constant
unfoldable pub folded_one : Unary → Formula → Formula
folded_one Not f = negated f
folded_one Next f = pick (is_either f) f (one Next f)
folded_one (Ever j) f = pick (is_either f) f (one (Ever j) f)

-- and, or by their constants; until is its right operand where that is a constant or the left one is false. With true on the left it stays.
unfoldable pub folded_two : Binary → Formula → Formula → Formula
folded_two (Joined j) f g = by_constants j f g (join j f g)
folded_two Until f g = pick (either (is_either g) (is_constant false f)) g (two Until f g)

-- operands first
abbrev pub folded : Formula → Formula
folded (leaf a) = leaf a
folded (one o f) = folded_one o (folded f)
folded (two o f g) = folded_two o (folded f) (folded g)
