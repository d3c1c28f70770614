-- The step is 0 where the counters are the same (`same_step`). No loop. Assumes nothing.
use mathlib.Core.Path.{ap₂, ◌∙◌}
use Prim.Native.Nat.{ℕ}
use native.Mathlib.Omega.{arith}
use lib.Dec.{eqb}
use Rattle.inspecting.proofs.Looking.{same_step}
use Rattle.inspecting.proofs.same_at.Goals as goal

pub returns : goal.returns
returns c = same_step c.counter_at-before.result c.counter_at-counter.result (omega arith) (omega arith) c.step.ensures ∙ ap₂ (λ (x y : ℕ). eqb x y) c.counter_at-counter.ensures c.counter_at-before.ensures
