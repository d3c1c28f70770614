-- The single byte 0 or 1, as a test of a slot's bytes and as its formula's verdict: `constant-is`. Assumes nothing.
use mathlib.Core.Path.{◌≡◌, refl, ap₂, ◌∙◌}
use mathlib.Core.Bool.{true, false}
use mathlib.Core.List.{List}
use Prim.Native.Nat.{ℕ, ◌+◌}
use native.Mathlib.Omega.{arith}
use lib.ListN.{get_or}
use lib.Dec.{leb, eqb}
use borrow.Author.Tests.{ne_eqb, lt-leb}
use Rattle.lists.specs.Tests.{both}
use Rattle.kinds.specs.declared.Leaf.TheVariants.{Const, Prop, Hold}
use Rattle.kinds.specs.Kinds.{prop_code, hold_code}
use Rattle.ltl.specs.Formula.{Formula, leaf, one, two, size, encode}
use Rattle.ltl.specs.Progression.{verdict_of}
use Rattle.ltl.proofs.Decoding.{size-some}
use Rattle.state.specs.Clauses.{is_constant_in}
use Rattle.state.specs.Bytes.{formula_at}
use Rattle.checked.proofs.Passing.{SlotPassing}
use Rattle.keeping.specs.Known.{known}

test-is : (f : Formula) → both (eqb (size f) 1) (leb (get_or (encode f) 0 0) 1) ≡ known (verdict_of f)
unfolding both
test-is (leaf (Const true)) = refl
test-is (leaf (Const false)) = refl
test-is (leaf (Prop i)) = lt-leb (prop_code + i) 1 (omega arith)
test-is (leaf (Hold m)) = lt-leb (hold_code + m) 1 (omega arith)
test-is (one o f) = let e : eqb (1 + size f) 1 ≡ false = ne_eqb (1 + size f) 1 (λ q. omega (arith, size-some f)) in rw e
test-is (two o f g) = let e : eqb (1 + size f + size g) 1 ≡ false = ne_eqb (1 + size f + size g) 1 (λ q. omega (arith, size-some f)) in rw e

pub constant-is : (s : List ℕ) (k : ℕ) → SlotPassing s k → is_constant_in s k ≡ known (verdict_of (formula_at s k))
constant-is s k x = ap₂ (λ (n : ℕ) (b : List ℕ). both (eqb n 1) (leb (get_or b 0 0) 1)) x.length-is x.bytes ∙ test-is (formula_at s k)
