-- The nodes of a register: one more entry adds its own (`entered-size`), and a longer register has no fewer (`longer-size`), so that a
-- register that is too large stays so. Assumes nothing.
use mathlib.Core.Path.{◌≡◌, ap, ◌∙◌}
use mathlib.Core.List.{List, [], ◌∷◌, ◌++◌}
use Prim.Native.Nat.{ℕ, ◌+◌, ◌≤◌}
use native.Mathlib.Omega.{arith}
use lib.ListN.{length}
use Rattle.ltl.specs.Formula.{size}
use Rattle.network.specs.Layout.{Slot}
use Rattle.registers.specs.Register.{entry_of, entered}
use Rattle.registers.specs.Numbers.{size_sum}
use Rattle.registers.specs.Outer.{outer_sum}
use Rattle.registers.proofs.Entering.{entered-new}
use Rattle.registers.proofs.Growing.{Longer}
use Rattle.registers.proofs.Outers.{outer-behind, outer-size}

pub sizes-behind : (xs ys : List Slot) → size_sum (xs ++ ys) ≡ size_sum xs + size_sum ys
unfolding size_sum
sizes-behind [] ys = omega arith
sizes-behind (x ∷ xs) ys = let i = sizes-behind xs ys in omega arith

pub sizes-one : (s : Slot) → size_sum (s ∷ []) ≡ size s.formula
unfolding size_sum
sizes-one s = omega arith

-- a new slot
pub entered-size : (s : Slot) (reg : List Slot) → entry_of s reg ≡ length reg → size_sum (entered s reg) ≡ size_sum reg + size s.formula
entered-size s reg e = ap size_sum (entered-new s reg e) ∙ sizes-behind reg (s ∷ []) ∙ ap (λ (x : ℕ). size_sum reg + x) (sizes-one s)

pub longer-size : (reg after : List Slot) → Longer reg after → size_sum reg ≤ size_sum after
longer-size reg after l = let e = ap size_sum l.is in let n = sizes-behind reg l.more in omega arith

pub longer-outer : (reg after : List Slot) → Longer reg after → outer_sum reg ≤ outer_sum after
longer-outer reg after l = let e = ap outer_sum l.is in let n = outer-behind reg l.more in omega arith

-- entries have no more nodes outside next than they have
pub outer-sizes : (reg : List Slot) → outer_sum reg ≤ size_sum reg
unfolding size_sum
outer-sizes [] = omega arith
outer-sizes (s ∷ ss) = let i = outer-sizes ss in let o = outer-size s.formula in omega arith
