use mathlib.Core.Path.{◌≡◌, sym, ◌∙◌}
use Rattle.state.specs.Fields.{slots_in}
use Rattle.checking.proofs.Noting.{below_none, below-no, below-yes}
use Rattle.records.proofs.Opened.{slot-there}
use native.Mathlib.Omega.{arith}
use Rattle.state.specs.Form.{form_in}
use Rattle.state.proofs.Forms.{slots-coded}
use Rattle.checking.proofs.formulas.holdable.Goals as goal
use Rattle.checking.proofs.formulas.holdable.Goals.{then-is_holdable, else-is_holdable}

pub loop-k-init : goal.loop-k-init
loop-k-init c = rw c.no_slots-slots.ensures (below_none _)

pub is_holdable-requires : goal.is_holdable-requires
is_holdable-requires c = let a = c.requires in slot-there _ _ _ a.0 a.1 c.loop-k-test.true

pub overflow_cast-k : goal.overflow_cast-k
overflow_cast-k c = let f = slots-coded (form_in c.args.s.now) in let l = c.loop-k-test.true in let z = c.requires.0.few-slots in omega arith

pub with_slot-slots-requires : goal.with_slot-slots-requires
with_slot-slots-requires c = let f = slots-coded (form_in c.args.s.now) in let l = c.loop-k-test.true in let z = c.requires.0.few-slots in omega arith

pub loop-k-preserved : goal.loop-k-preserved
loop-k-preserved c =
    let i = c.loop-k.invariant in
    let e = c.is_holdable.ensures in
    elim c.if-is_holdable.branch [
      | then-is_holdable w ↦ rw (w.slots-is, w.with_slot-slots.ensures) (below-yes _ _ _ i (sym e ∙ w.if-is_holdable.true))
      | else-is_holdable w ↦ rw w.slots-is (below-no _ _ _ i (sym e ∙ w.if-is_holdable.false))
    ]

pub returns : goal.returns
returns c = let q = c.requires.0.header.slots-are in let e : c.loop-k.k ≡ slots_in c.args.s.now = omega arith in rw e at c.loop-k.invariant
