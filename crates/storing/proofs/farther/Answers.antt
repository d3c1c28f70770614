-- One test tells which is farther. Assumes nothing.
use mathlib.Core.Path.{refl}
use mathlib.Core.Logic.{inl, inr}
use native.Mathlib.Omega.{arith}
use Rattle.storing.proofs.farther.Goals as goal

pub returns-then-a-b : goal.returns-then-a-b
returns-then-a-b c = (let l = c.if-a-b.true in omega arith, omega arith, inr refl)

pub returns : goal.returns
returns c = (omega arith, let l = c.if-a-b.false in omega arith, inl refl)
