use mathlib.Core.Path.{refl, sym, ◌∙◌}
use Prim.Native.Nat.{◌-◌}
use lib.ListN.{length-set}
use lib.Bits.{and_le_r}
use Rattle.chaining.proofs.Raising.{raise-more, raise-done}
use native.Mathlib.Omega.{arith}
use Rattle.chaining.proofs.raise.Goals as goal

pub loop-left-init : goal.loop-left-init
loop-left-init c = (refl, λ m. refl)

pub loop-left-smaller : goal.loop-left-smaller
loop-left-smaller c = let l = and_le_r c.loop-left.left (c.loop-left.left - 1) in omega arith

pub loop-left-preserved : goal.loop-left-preserved
loop-left-preserved c =
    let i = c.loop-left.invariant.0 in let p = c.requires in let l = c.lowest-p.ensures in
    (length-set c.loop-left.chain c.lowest-p.result _ ∙ i, λ m. raise-more c.loop-left.chain c.loop-left.left c.lowest-p.result _ _ (omega arith) l.0 (omega arith) (l.1, l.2) (omega arith) m ∙ c.loop-left.invariant.1 m)

pub returns : goal.returns
returns c = λ m. sym (raise-done _ c.loop-left.chain m) ∙ rw c.loop-left-test.false at (c.loop-left.invariant.1 m)
