-- A formula by its first byte: 0 and 1 are the constants, and nothing else begins so. `joined` and `negated` by the first bytes
-- of their operands, as the code tells them apart. Assumes nothing.
use mathlib.Core.Path.{◌≡◌, refl, ap, ◌∙◌}
use mathlib.Core.Bool.{Bool, true, false, not}
use Prim.Native.Nat.{ℕ, zero, suc, ◌-◌, ◌<◌, ◌≤◌}
use native.Mathlib.Omega.{arith}
use Rattle.lists.specs.Tests.{pick}
use Rattle.kinds.specs.declared.Leaf.TheVariants.{Const, Prop, Hold}
use Rattle.kinds.specs.declared.Unary.{Unary}
use Rattle.kinds.specs.declared.Unary.TheVariants.{Not, Next, Ever}
use Rattle.kinds.specs.declared.Join.{Join}
use Rattle.kinds.specs.declared.Join.TheVariants.{And, Or}
use Rattle.kinds.specs.declared.Binary.{Binary}
use Rattle.kinds.specs.declared.Binary.TheVariants.{Joined, Until}
use Rattle.kinds.specs.Kinds.{leaf_code, unary_code, binary_code}
use Rattle.ltl.specs.Formula.{Formula, leaf, one, two, constant, join}
use Rattle.ltl.specs.Progression.{is_constant, negated, deciding, member, joined}
use Rattle.ltl.proofs.Decoding.{first}
use Rattle.ltl.proofs.Joining.{constant-self, constant-other, by_left, by_right, by-skip, by-keep, by-none}

pub unary-high : (o : Unary) → 2 ≤ unary_code o
unary-high Not = omega arith
unary-high Next = omega arith
unary-high (Ever And) = omega arith
unary-high (Ever Or) = omega arith

pub binary-high : (o : Binary) → 2 ≤ binary_code o
binary-high (Joined And) = omega arith
binary-high (Joined Or) = omega arith
binary-high Until = omega arith

-- a constant's byte
pub first-constant : (v : Bool) (f : Formula) → first f ≡ leaf_code (Const v) → f ≡ constant v
first-constant true (leaf (Const true)) e = refl
first-constant true (leaf (Const false)) e = absurd (omega arith)
first-constant false (leaf (Const true)) e = absurd (omega arith)
first-constant false (leaf (Const false)) e = refl
first-constant true (leaf (Prop i)) e = absurd (omega arith)
first-constant false (leaf (Prop i)) e = absurd (omega arith)
first-constant true (leaf (Hold k)) e = absurd (omega arith)
first-constant false (leaf (Hold k)) e = absurd (omega arith)
first-constant true (one o f) e = absurd (let h = unary-high o in omega arith)
first-constant false (one o f) e = absurd (let h = unary-high o in omega arith)
first-constant true (two o f g) e = absurd (let h = binary-high o in omega arith)
first-constant false (two o f g) e = absurd (let h = binary-high o in omega arith)

-- any other byte
pub first-pending : (f : Formula) → 2 ≤ first f → (v : Bool) → is_constant v f ≡ false
unfolding is_constant
first-pending (leaf (Const true)) h v = absurd (omega arith)
first-pending (leaf (Const false)) h v = absurd (omega arith)
first-pending (leaf (Prop i)) h v = refl
first-pending (leaf (Hold k)) h v = refl
first-pending (one o f) h v = refl
first-pending (two o f g) h v = refl

-- a byte below 2 that is not the deciding one is the other
pub first-other : (j : Join) (f : Formula) → first f < 2 → (first f ≡ leaf_code (Const (deciding j)) → ⊥) → f ≡ constant (not (deciding j))
first-other And f h n = first-constant true f (omega arith)
first-other Or f h n = first-constant false f (omega arith)

-- ---- `joined` by its operands
module _ (j : Join) (l r : Formula) where
  -- what is left where neither operand is a constant
  abbrev by_member : Formula
  by_member = pick (member j l r) r (join j l r)

  -- the left operand settles it
  pub joined-left : l ≡ constant (deciding j) → joined j l r ≡ constant (deciding j)
  unfolding joined
  joined-left = by_left j l r by_member

  -- the right one does
  pub joined-right : r ≡ constant (deciding j) → joined j l r ≡ constant (deciding j)
  unfolding joined
  joined-right = by_right j l r by_member

  -- the left operand says nothing
  pub joined-skip : l ≡ constant (not (deciding j)) → joined j l r ≡ r
  unfolding joined
  joined-skip = by-skip j l r by_member

  -- the left operand is no constant
  module _ (p : (v : Bool) → is_constant v l ≡ false) where
    -- the right one says nothing
    pub joined-keep : r ≡ constant (not (deciding j)) → joined j l r ≡ l
    unfolding joined
    joined-keep = by-keep j l r by_member p

    -- the right one is no constant either
    module _ (q : (v : Bool) → is_constant v r ≡ false) where
      pub joined-member : member j l r ≡ true → joined j l r ≡ r
      unfolding joined pick
      joined-member m = by-none j l r by_member p q ∙ ap (λ (x : Bool). pick x r (join j l r)) m

      pub joined-both : member j l r ≡ false → joined j l r ≡ join j l r
      unfolding joined pick
      joined-both m = by-none j l r by_member p q ∙ ap (λ (x : Bool). pick x r (join j l r)) m

-- ---- `negated` by its operand
negated-constant : (v : Bool) (f : Formula) → f ≡ constant v → negated f ≡ constant (not v)
unfolding negated pick
negated-constant true f e = rw (e, constant-self true)
negated-constant false f e = rw (e, constant-other true, constant-self false)

pub negated-pending : (f : Formula) → ((v : Bool) → is_constant v f ≡ false) → negated f ≡ one Not f
unfolding negated pick
negated-pending f p = rw (p true, p false)

-- the byte of not of a constant
pub first-negated : (f : Formula) → first f < 2 → (v : Bool) × (negated f ≡ constant v) × (1 - first f ≡ leaf_code (Const v))
first-negated f h = go (first f) refl
  where
    go : (b : ℕ) → first f ≡ b → (v : Bool) × (negated f ≡ constant v) × (1 - first f ≡ leaf_code (Const v))
    go zero e = (true, negated-constant false f (first-constant false f e), omega arith)
    go (suc zero) e = (false, negated-constant true f (first-constant true f e), omega arith)
    go (suc (suc b)) e = absurd (omega arith)
