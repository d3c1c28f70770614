use mathlib.Core.Path.{sym, ◌∙◌}
use Rattle.records.proofs.Opened.{slot-there}
use Rattle.checking.proofs.Forming.{seen_none, seen_more, seen-wrong, seen_all}
use native.Mathlib.Omega.{arith}
use Rattle.checking.proofs.formulas.formulas_ok.Goals as goal

pub loop-k-init : goal.loop-k-init
loop-k-init c = rw c.no_slots-seen.ensures seen_none

pub formula_held-requires : goal.formula_held-requires
formula_held-requires c = let a = c.requires in (slot-there _ _ _ a.0 a.1 c.loop-k-test.true, a.2, c.holdable-holders.ensures)

pub loop-k-preserved : goal.loop-k-preserved
loop-k-preserved c = seen_more c.loop-k.invariant (sym c.formula_held.ensures ∙ c.in-Some.is)

pub returns : goal.returns
returns c = seen_all c.loop-k.invariant _ (omega arith) c.loop-k-test.false

pub returns-in_default : goal.returns-in_default
returns-in_default c = seen-wrong c.loop-k.invariant _ c.loop-k-test.true (sym c.formula_held.ensures ∙ c.in_default.is)
