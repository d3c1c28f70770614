-- The print of a formula: no blanks, and brackets only where a sign binds looser than its place asks for. Others use `printed`.
-- Assumes nothing: these are definitions.
use Rattle.std.specs.Prelude.{Bool, true, false, List, [], ◌∷◌, ◌++◌, ℕ, suc, ◌+◌, ◌/◌, ◌%◌, ltb}
use Rattle.lists.specs.Tests.{pick}
use Rattle.kinds.specs.declared.Leaf.{Leaf}
use Rattle.kinds.specs.declared.Leaf.TheVariants.{Const, Prop, Hold}
use Rattle.kinds.specs.declared.Unary.{Unary}
use Rattle.kinds.specs.declared.Unary.TheVariants.{Not, Next, Ever}
use Rattle.kinds.specs.declared.Join.TheVariants.{And, Or}
use Rattle.kinds.specs.declared.Binary.{Binary}
use Rattle.kinds.specs.declared.Binary.TheVariants.{Joined, Until}
use Rattle.ltl.specs.Formula.{Formula, leaf, one, two}
use Rattle.text.specs.declared.Sign.{Sign}
use Rattle.text.specs.declared.Sign.TheVariants.{Blank, Prefix, Infix, Open, Close, Word, Letter, Digit, Other}
use Rattle.text.specs.Signs.{sign_of, spelling, level, loosest}

-- the byte of a sign
abbrev pub unary_sign : Unary → ℕ
unary_sign Not = 33
unary_sign Next = 88
unary_sign (Ever Or) = 70
unary_sign (Ever And) = 71

abbrev pub binary_sign : Binary → ℕ
binary_sign Until = 85
binary_sign (Joined And) = 38
binary_sign (Joined Or) = 124

abbrev pub open_sign : ℕ
open_sign = 40

abbrev pub close_sign : ℕ
close_sign = 41

-- true, false
abbrev pub constant_text : Bool → List ℕ
constant_text true = 116 ∷ spelling true
constant_text false = 102 ∷ spelling false

-- the number in one digit or two: there are fewer than a hundred propositions
abbrev pub digits : ℕ → List ℕ
digits n = pick (ltb n 10) ((48 + n) ∷ []) ((48 + n / 10) ∷ (48 + n % 10) ∷ [])

-- a place holder stands in no rule and has no text
abbrev pub leaf_text : Leaf → List ℕ
leaf_text (Const v) = constant_text v
leaf_text (Prop n) = 112 ∷ digits n
leaf_text (Hold k) = []

-- the print of f at a place that takes texts of level k, and then b
abbrev pub shown : Formula → ℕ → List ℕ → List ℕ
shown (leaf a) k b = leaf_text a ++ b
shown (one o f) k b = unary_sign o ∷ shown f 0 b
shown (two o f g) k b =
    pick (ltb (level o) k) (shown f (level o) (binary_sign o ∷ shown g (suc (level o)) b))
    (open_sign ∷ shown f (level o) (binary_sign o ∷ shown g (suc (level o)) (close_sign ∷ b)))

abbrev pub printed : Formula → List ℕ
printed f = shown f loosest []

-- ---- what a text is made of, counted sign by sign
abbrev pub tally : (Sign → ℕ) → List ℕ → ℕ
tally each [] = 0
tally each (c ∷ t) = each (sign_of c) + tally each t

abbrev pub open_one : Sign → ℕ
open_one Blank = 0
open_one (Prefix o) = 0
open_one (Infix o) = 0
open_one Open = 1
open_one Close = 0
open_one (Word v) = 0
open_one Letter = 0
open_one (Digit n) = 0
open_one Other = 0

-- how many pairs of brackets a text has
abbrev pub brackets : List ℕ → ℕ
brackets t = tally open_one t

abbrev pub blank_one : Sign → ℕ
blank_one Blank = 1
blank_one (Prefix o) = 0
blank_one (Infix o) = 0
blank_one Open = 0
blank_one Close = 0
blank_one (Word v) = 0
blank_one Letter = 0
blank_one (Digit n) = 0
blank_one Other = 0

-- how many blanks
abbrev pub blanks : List ℕ → ℕ
blanks t = tally blank_one t
