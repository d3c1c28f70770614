-- The one law of the operands owed, `owed-front`: a pass over bytes that counts them takes a formula in front for one of them, whatever
-- it does besides. Such passes are the test for a whole formula (`owing`), the state check inside next and the temporal operators
-- (`scanning`) and the end of an operand (`nodes`). Assumes nothing.
use mathlib.Core.Path.{◌≡◌, refl, ap, ◌∙◌}
use mathlib.Core.Bool.{Bool, true, false}
use mathlib.Core.List.{List, ◌∷◌, ◌++◌, append_assoc}
use Prim.Native.Nat.{ℕ, suc, ◌+◌}
use native.Mathlib.Omega.{arith}
use native.Mathlib.Numerals.{add-one}
use Rattle.lists.specs.Tests.{pick, both}
use Rattle.kinds.specs.declared.Kind.{Kind}
use Rattle.kinds.specs.declared.Kind.TheVariants.{Zero, One, Two}
use Rattle.kinds.specs.Kinds.{kind_of, leaf_code, unary_code, binary_code, operands}
use Rattle.kinds.proofs.Codes.{kind-leaf, kind-unary, kind-binary}
use Rattle.ltl.specs.Formula.{Formula, leaf, one, two, encode, Coded, node_over, over}

-- a pass that answers `run l n` where n operands are owed before the bytes l: it takes one byte for one of them and owes those of its node
-- besides; `act` makes the answer of the node and of the answer behind it
pub record Owes {A : Type 0} (act : Kind → A → A) (run : List ℕ → ℕ → A) : Type 0 where
  pub turn : (b n : ℕ) (l : List ℕ) → run (b ∷ l) (suc n) ≡ act (kind_of b) (run l (n + operands (kind_of b)))

-- what is made of a formula and of the answer behind it, node by node
abbrev pub acts : {A : Type 0} → (Kind → A → A) → Formula → A → A
acts act (leaf a) x = act (Zero a) x
acts act (one o f) x = act (One o) (acts act f x)
acts act (two o f g) x = act (Two o) (acts act f (acts act g x))

pub owed-front : {A : Type 0} {act : Kind → A → A} {run : List ℕ → ℕ → A} → Owes act run → (f : Formula) (n : ℕ) (l : List ℕ) → Coded f
    → run (encode f ++ l) (suc n) ≡ acts act f (run l n)
owed-front o (leaf a) n l c = let e : n + 0 ≡ n = omega arith in o.turn (leaf_code a) n l ∙ rw (kind-leaf a c, e)
owed-front {act = act} o (one p f) n l c = o.turn (unary_code p) n (encode f ++ l) ∙ rw (kind-unary p, add-one) (ap (act (One p)) (owed-front o f n l c))
owed-front {act = act} o (two p f g) n l c =
    let e : n + 2 ≡ suc (suc n) = omega arith in
    o.turn (binary_code p) n ((encode f ++ encode g) ++ l)
    ∙ rw (kind-binary p, e, append_assoc (encode f) (encode g) l)
    (ap (act (Two p)) (owed-front o f (suc n) (encode g ++ l) c.0 ∙ ap (acts act f) (owed-front o g n l c.1)))

-- ---- a pass that gives up at a node that may not stand
abbrev pub tested : {A : Type 0} → ℕ → ℕ → A → Kind → A → A
tested p z bad k x = pick (node_over p z k) x bad

pub pick-both : {A : Type 0} (a b : Bool) (x y : A) → pick a (pick b x y) y ≡ pick (both a b) x y
unfolding pick both
pick-both true b x y = refl
pick-both false b x y = refl

-- it goes on behind a formula in which every node may stand
pub acts-tested : {A : Type 0} (p z : ℕ) (bad : A) (f : Formula) (x : A) → acts (tested p z bad) f x ≡ pick (over p z f) x bad
unfolding over pick
acts-tested p z bad (leaf a) x = refl
acts-tested p z bad (one o f) x = acts-tested p z bad f x
acts-tested p z bad (two o f g) x =
    acts-tested p z bad f (acts (tested p z bad) g x)
    ∙ ap (λ y. pick (over p z f) y bad) (acts-tested p z bad g x)
    ∙ pick-both (over p z f) (over p z g) x bad
