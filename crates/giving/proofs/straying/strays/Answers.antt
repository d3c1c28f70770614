-- One arm for each kind of the slot's first byte: `lone-by` tells what it says. Assumes nothing.
use mathlib.Core.Path.{sym, ap, ◌∙◌}
use Prim.Native.Nat.{ℕ}
use Rattle.lists.specs.Tests.{bit}
use Rattle.kinds.specs.declared.Kind.TheVariants.{Zero}
use Rattle.state.specs.Clauses.{lone_other}
use Rattle.state.specs.Fields.{mask_in}
use Rattle.state.specs.Bytes.{formula_at}
use Rattle.giving.proofs.Lone.{prop-few, reads-some, lone-by}
use native.Mathlib.Omega.{arith}
use Rattle.giving.proofs.straying.strays.Goals as goal

pub bounds-s-first : goal.bounds-s-first
bounds-s-first c = let p = c.requires in let e = c.span_of-first.ensures in let l = reads-some p in let t = e.to_is in let w = e.within in omega arith

pub overflow_shr-result : goal.overflow_shr-result
overflow_shr-result c = prop-few _ (sym c.from-kind.ensures ∙ c.in-Zero.is ∙ ap Zero c.in-Prop.is)

pub returns-in-Const : goal.returns-in-Const
returns-in-Const c = lone-by c.requires _ _ c.span_of-first.ensures.from_is (sym c.from-kind.ensures ∙ c.in-Zero.is ∙ ap Zero c.in-Const.is)

pub returns-in-Prop : goal.returns-in-Prop
unfolding bit
returns-in-Prop c =
    let a = c.args in
    lone-by c.requires c.mask_of-mask.result _ c.span_of-first.ensures.from_is (sym c.from-kind.ensures ∙ c.in-Zero.is ∙ ap Zero c.in-Prop.is)
    ∙ ap (λ (m : ℕ). lone_other m (formula_at a.s.now a.k)) (c.mask_of-mask.ensures ∙ ap (mask_in a.s.now) c.board_of.ensures)

pub returns-in-Hold : goal.returns-in-Hold
returns-in-Hold c = lone-by c.requires _ _ c.span_of-first.ensures.from_is (sym c.from-kind.ensures ∙ c.in-Zero.is ∙ ap Zero c.in-Hold.is)

pub returns-in-One : goal.returns-in-One
returns-in-One c = lone-by c.requires _ _ c.span_of-first.ensures.from_is (sym c.from-kind.ensures ∙ c.in-One.is)

pub returns-in-Two : goal.returns-in-Two
returns-in-Two c = lone-by c.requires _ _ c.span_of-first.ensures.from_is (sym c.from-kind.ensures ∙ c.in-Two.is)

pub returns-in-NoCode : goal.returns-in-NoCode
returns-in-NoCode c = lone-by c.requires _ _ c.span_of-first.ensures.from_is (sym c.from-kind.ensures ∙ c.in-NoCode.is)
