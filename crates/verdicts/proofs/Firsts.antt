-- The first byte of a formula says its verdict (`verdict-first`), also where the formula stands in front of other bytes (`first_of`).
-- Assumes nothing.
use mathlib.Core.Path.{◌≡◌, refl, ap, ◌∙◌}
use mathlib.Core.Bool.{true, false}
use mathlib.Core.List.{List, ◌++◌}
use Prim.Native.Nat.{ℕ, ◌+◌}
use native.Mathlib.Omega.{arith}
use lib.ListN.{get_or}
use borrow.Author.Tests.{ne_eqb}
use Rattle.lists.specs.Tests.{pick}
use Rattle.kinds.specs.declared.Leaf.TheVariants.{Const, Prop, Hold}
use Rattle.kinds.specs.Kinds.{prop_code, hold_code}
use Rattle.ltl.specs.Formula.{Formula, leaf, one, two, encode}
use Rattle.ltl.specs.Progression.{verdict_of}
use Rattle.ltl.proofs.Decoding.{first, first-is}
use Rattle.stacking.proofs.Firsts.{unary-high, binary-high}
use Rattle.verdicts.specs.Verdicts.{verdict_byte}

pub verdict-first : (g : Formula) → verdict_byte (first g) ≡ verdict_of g
unfolding verdict_byte pick
verdict-first (leaf (Const true)) = refl
verdict-first (leaf (Const false)) = refl
verdict-first (leaf (Prop i)) = rw (ne_eqb (prop_code + i) 0 (λ e. omega arith), ne_eqb (prop_code + i) 1 (λ e. omega arith))
verdict-first (leaf (Hold k)) = rw (ne_eqb (hold_code + k) 0 (λ e. omega arith), ne_eqb (hold_code + k) 1 (λ e. omega arith))
verdict-first (one o f) = let h = unary-high o in rw (ne_eqb (first (one o f)) 0 (λ e. omega arith), ne_eqb (first (one o f)) 1 (λ e. omega arith))
verdict-first (two o f g) = let h = binary-high o in rw (ne_eqb (first (two o f g)) 0 (λ e. omega arith), ne_eqb (first (two o f g)) 1 (λ e. omega arith))

-- the first byte of an output that holds a formula
pub first_of : (g : Formula) (out zeros : List ℕ) → out ≡ encode g ++ zeros → get_or out 0 0 ≡ first g
first_of g out zeros e = ap (λ (l : List ℕ). get_or l 0 0) e ∙ first-is g zeros
