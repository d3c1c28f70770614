-- Bytes read as a formula. Others use `decoded`, `formula_of`, `is_formula`, `is_rule` and their laws in proofs/Decoding.antt.
-- Assumes nothing: these are definitions.
use Rattle.std.specs.Prelude.{ℕ, zero, suc, Bool, false, List, [], ◌∷◌, length}
use Rattle.std.proofs.Math.Option.{Option, none, some}
use Rattle.kinds.specs.declared.Kind.{Kind}
use Rattle.kinds.specs.declared.Kind.TheVariants.{Zero, One, Two, NoCode}
use Rattle.kinds.specs.declared.Unary.{Unary}
use Rattle.kinds.specs.declared.Binary.{Binary}
use Rattle.kinds.specs.Kinds.{kind_of}
use Rattle.ltl.specs.Formula.{Formula, leaf, one, two, constant, over}

-- a formula at the front of some bytes, and the bytes behind it; or none
pub record Parsed : Type 0 where
  pub formula : Formula
  pub behind : List ℕ

abbrev pub Reader : Type 0
Reader = List ℕ → Option Parsed

-- one operand more
abbrev pub with_one : Unary → Option Parsed → Option Parsed
with_one o none = none
with_one o (some x) = some (record { formula = one o x.formula; behind = x.behind })

abbrev pub with_second : Binary → Formula → Option Parsed → Option Parsed
with_second o f none = none
with_second o f (some y) = some (record { formula = two o f y.formula; behind = y.behind })

abbrev pub with_two : Binary → Reader → Option Parsed → Option Parsed
with_two o operand none = none
with_two o operand (some x) = with_second o x.formula (operand x.behind)

-- a node of this kind, its operands read one after the other from the bytes behind it
abbrev pub node : Kind → Reader → Reader
node (Zero a) operand l = some (record { formula = leaf a; behind = l })
node (One o) operand l = with_one o (operand l)
node (Two o) operand l = with_two o operand (operand l)
node NoCode operand l = none

-- the formula at the front, of at most n levels
abbrev pub parse : ℕ → Reader
parse zero l = none
parse (suc n) [] = none
parse (suc n) (b ∷ l) = node (kind_of b) (parse n) l

-- the formula where nothing stands behind it
abbrev pub before : List ℕ → Formula → Option Formula
before [] f = some f
before (b ∷ l) f = none

abbrev pub alone : Option Parsed → Option Formula
alone none = none
alone (some x) = before x.behind x.formula

-- the bytes as one whole formula: no formula has more levels than bytes
abbrev pub decoded : List ℕ → Option Formula
decoded l = alone (parse (length l) l)

-- the formula that some bytes are; what bytes that are none would be does not matter, since they are refused
abbrev pub some_formula : Option Formula → Formula
some_formula none = constant false
some_formula (some f) = f

abbrev pub formula_of : List ℕ → Formula
formula_of bytes = some_formula (decoded bytes)

-- one whole formula of the language with propositions below p and place holders below h alone
abbrev pub over_alone : ℕ → ℕ → Option Formula → Bool
over_alone p h none = false
over_alone p h (some f) = over p h f

unfoldable pub is_formula : ℕ → ℕ → List ℕ → Bool
is_formula p h l = over_alone p h (decoded l)

-- a rule's formula: no place holder
abbrev pub is_rule : ℕ → List ℕ → Bool
is_rule p l = is_formula p 0 l
