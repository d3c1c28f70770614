-- The codes of the rule language, one byte a node. Others use `kind_of` and the three code functions.
-- Assumes nothing: these are definitions.
use Rattle.std.specs.Prelude.{ℕ, ◌+◌, ◌-◌, ◌<◌, true, false, List, [], ◌∷◌, get_or, ltb}
use Rattle.limits.specs.Limits.{propositions_most, holder_codes}
use Rattle.lists.specs.Tests.{pick}
use Rattle.kinds.specs.declared.Leaf.{Leaf}
use Rattle.kinds.specs.declared.Leaf.TheVariants.{Const, Prop, Hold}
use Rattle.kinds.specs.declared.Unary.{Unary}
use Rattle.kinds.specs.declared.Unary.TheVariants.{Not, Next, Ever}
use Rattle.kinds.specs.declared.Join.{Join}
use Rattle.kinds.specs.declared.Join.TheVariants.{And, Or}
use Rattle.kinds.specs.declared.Binary.{Binary}
use Rattle.kinds.specs.declared.Binary.TheVariants.{Joined, Until}
use Rattle.kinds.specs.declared.Kind.{Kind}
use Rattle.kinds.specs.declared.Kind.TheVariants.{Zero, One, Two, NoCode}

-- 0 false, 1 true, 2 not, 3 and, 4 or, 5 next, 6 until, 7 eventually, 8 always
abbrev pub named : List Kind
named =
    Zero (Const false) ∷ Zero (Const true) ∷ One Not ∷ Two (Joined And) ∷ Two (Joined Or) ∷ One Next ∷ Two Until ∷ One (Ever Or) ∷ One (Ever And) ∷ []

-- where the codes of propositions begin, those of place holders, and where these end
abbrev pub prop_code : ℕ
prop_code = 64

abbrev pub hold_code : ℕ
hold_code = prop_code + propositions_most

abbrev pub end_code : ℕ
end_code = hold_code + holder_codes

-- what a byte is: the named codes, then those of propositions, then those of place holders; every other byte is no code
unfoldable pub kind_of : ℕ → Kind
kind_of b =
    pick (ltb b prop_code) (get_or named b NoCode)
    (pick (ltb b hold_code) (Zero (Prop (b - prop_code)))
    (pick (ltb b end_code) (Zero (Hold (b - hold_code))) NoCode))

-- the byte of a node
abbrev pub leaf_code : Leaf → ℕ
leaf_code (Const false) = 0
leaf_code (Const true) = 1
leaf_code (Prop i) = prop_code + i
leaf_code (Hold k) = hold_code + k

abbrev pub unary_code : Unary → ℕ
unary_code Not = 2
unary_code Next = 5
unary_code (Ever Or) = 7
unary_code (Ever And) = 8

abbrev pub join_code : Join → ℕ
join_code And = 3
join_code Or = 4

abbrev pub binary_code : Binary → ℕ
binary_code (Joined j) = join_code j
binary_code Until = 6

-- how many operands a node has
abbrev pub operands : Kind → ℕ
operands (Zero a) = 0
operands (One o) = 1
operands (Two o) = 2
operands NoCode = 0

-- a proposition's number is below p, a place holder's below s
abbrev pub leaf_within : ℕ → ℕ → Leaf → Type 0
leaf_within p s (Const v) = Unit {0}
leaf_within p s (Prop i) = i < p
leaf_within p s (Hold k) = k < s

-- the number has a code
abbrev pub leaf_coded : Leaf → Type 0
leaf_coded a = leaf_within propositions_most holder_codes a
