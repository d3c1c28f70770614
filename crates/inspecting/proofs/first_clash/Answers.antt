use mathlib.Core.Path.{sym, ◌∙◌}
use native.Mathlib.Omega.{arith}
use borrow.Author.Tests.{not-true}
use Rattle.inspecting.proofs.Looking.{clear-four}
use Rattle.inspecting.proofs.first_clash.Goals as goal

pub loop-i-preserved : goal.loop-i-preserved
loop-i-preserved c = (clear-four c.loop-i.invariant.0 (not-true _ (sym c.four_clear.ensures ∙ c.if-four_clear.true)), omega arith)
