-- One law for each kind of sign. Assumes nothing.
use mathlib.Core.Logic.{inl, inr}
use mathlib.Core.Path.{refl}
use Prim.Native.Nat.{◌-◌}
use native.Mathlib.Omega.{arith}
use Rattle.text.specs.Machine.{want, got}
use Rattle.cursor.specs.declared.Token.TheVariants.{Space, Operator, Bracket}
use Rattle.cursor.proofs.Signed.{closing-zero, closing-some, operator-dead, operator-sign}
use Rattle.cursor.proofs.operator_by.Goals as goal

pub returns-in-Blank : goal.returns-in-Blank
returns-in-Blank c = operator-sign c.requires c.in-Blank.is Space c.passed.ensures _ (got c.args.depth) refl refl (λ m. m)

pub returns-in-Infix : goal.returns-in-Infix
returns-in-Infix c = operator-sign c.requires c.in-Infix.is Operator c.passed-in-Infix.ensures _ (want c.args.depth) refl refl (λ m. m)

pub returns-then-depth-eq0 : goal.returns-then-depth-eq0
returns-then-depth-eq0 c = operator-dead c.requires c.in-Close.is _ (closing-zero _ c.if-depth-eq0.true) c.wrong.ensures

pub returns-else-depth-eq0 : goal.returns-else-depth-eq0
returns-else-depth-eq0 c = operator-sign c.requires c.in-Close.is Bracket c.passed-else-depth-eq0.ensures _ (got (c.args.depth - 1)) (closing-some _ c.if-depth-eq0.false) refl (λ m. (omega (arith, c.if-depth-eq0.false), m))

pub returns-in-Prefix : goal.returns-in-Prefix
returns-in-Prefix c =
    elim c.in-Prefix.is [
      | inl (o, e) ↦ operator-dead c.requires e _ refl c.wrong-in-Prefix.ensures
      | inr (inl e) ↦ operator-dead c.requires e _ refl c.wrong-in-Prefix.ensures
      | inr (inr (inl (v, e))) ↦ operator-dead c.requires e _ refl c.wrong-in-Prefix.ensures
      | inr (inr (inr (inl e))) ↦ operator-dead c.requires e _ refl c.wrong-in-Prefix.ensures
      | inr (inr (inr (inr (inl (n, e))))) ↦ operator-dead c.requires e _ refl c.wrong-in-Prefix.ensures
      | inr (inr (inr (inr (inr e)))) ↦ operator-dead c.requires e _ refl c.wrong-in-Prefix.ensures
    ]
