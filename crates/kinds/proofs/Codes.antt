-- The kinds of the bytes by range, and that each node's own byte has its kind. Others use the `kind-..` laws, that an operator's byte
-- is below those of place holders (`unary-low`, `binary-low`), and `operands-few`. Assumes nothing.
use mathlib.Core.Path.{◌≡◌, refl, ◌∙◌}
use mathlib.Core.Bool.{Bool, true, false}
use Prim.Native.Nat.{ℕ, zero, suc, ◌+◌, ◌-◌, ◌<◌, ◌≤◌}
use native.Mathlib.Omega.{arith}
use lib.ListN.{get_or, get_or-eq_default}
use lib.Dec.{ltb}
use borrow.Author.Tests.{lt-ltb, le-ltb, ltb-true, ltb-false}
use Rattle.kinds.specs.declared.Leaf.{Leaf}
use Rattle.kinds.specs.declared.Leaf.TheVariants.{Const, Prop, Hold}
use Rattle.kinds.specs.declared.Unary.{Unary}
use Rattle.kinds.specs.declared.Unary.TheVariants.{Not, Next, Ever}
use Rattle.kinds.specs.declared.Join.TheVariants.{And, Or}
use Rattle.kinds.specs.declared.Binary.{Binary}
use Rattle.kinds.specs.declared.Binary.TheVariants.{Joined, Until}
use Rattle.kinds.specs.declared.Kind.{Kind}
use Rattle.kinds.specs.declared.Kind.TheVariants.{Zero, One, Two, NoCode}
use Rattle.lists.specs.Tests.{pick}
use Rattle.limits.specs.Limits.{propositions_most, holder_codes}
use Rattle.kinds.specs.Kinds.{named, leaf_coded, kind_of, leaf_code, unary_code, binary_code, prop_code, hold_code, end_code, operands}

-- ---- by range
pub kind-low : (b : ℕ) → 9 ≤ b → b < prop_code → kind_of b ≡ NoCode
unfolding kind_of pick
kind-low b h k = rw (lt-ltb b prop_code k) (get_or-eq_default named NoCode {n = b} h)

pub kind-prop : (b : ℕ) → prop_code ≤ b → b < hold_code → kind_of b ≡ Zero (Prop (b - prop_code))
unfolding kind_of pick
kind-prop b h k = rw (le-ltb b prop_code h, lt-ltb b hold_code k)

pub kind-hold : (b : ℕ) → hold_code ≤ b → b < end_code → kind_of b ≡ Zero (Hold (b - hold_code))
unfolding kind_of pick
kind-hold b h k = let l : prop_code ≤ b = omega arith in rw (le-ltb b prop_code l, le-ltb b hold_code h, lt-ltb b end_code k)

pub kind-high : (b : ℕ) → end_code ≤ b → kind_of b ≡ NoCode
unfolding kind_of pick
kind-high b h = let l : prop_code ≤ b = omega arith in let m : hold_code ≤ b = omega arith in rw (le-ltb b prop_code l, le-ltb b hold_code m, le-ltb b end_code h)

-- ---- none of the named codes: in two steps, since `omega` splits at most six times
past-4 : (b : ℕ) → (b ≡ 0 → ⊥) → (b ≡ 1 → ⊥) → (b ≡ 2 → ⊥) → (b ≡ 3 → ⊥) → (b ≡ 4 → ⊥) → 5 ≤ b
past-4 b h₀ h₁ h₂ h₃ h₄ = omega arith

past-8 : (b : ℕ) → 5 ≤ b → (b ≡ 5 → ⊥) → (b ≡ 6 → ⊥) → (b ≡ 7 → ⊥) → (b ≡ 8 → ⊥) → 9 ≤ b
past-8 b h h₅ h₆ h₇ h₈ = omega arith

pub unnamed : (b : ℕ) → (b ≡ 0 → ⊥) → (b ≡ 1 → ⊥) → (b ≡ 2 → ⊥) → (b ≡ 3 → ⊥) → (b ≡ 4 → ⊥) → (b ≡ 5 → ⊥) → (b ≡ 6 → ⊥) → (b ≡ 7 → ⊥) → (b ≡ 8 → ⊥) → 9 ≤ b
unnamed b h₀ h₁ h₂ h₃ h₄ h₅ h₆ h₇ h₈ = past-8 b (past-4 b h₀ h₁ h₂ h₃ h₄) h₅ h₆ h₇ h₈

-- ---- a node's own byte has its kind
pub kind-const : (v : Bool) → kind_of (leaf_code (Const v)) ≡ Zero (Const v)
unfolding kind_of pick
kind-const false = refl
kind-const true = refl

pub kind-prop-code : (i : ℕ) → i < propositions_most → kind_of (prop_code + i) ≡ Zero (Prop i)
kind-prop-code i h = let e : prop_code + i - prop_code ≡ i = omega arith in kind-prop (prop_code + i) (omega arith) (omega arith) ∙ rw e

pub kind-hold-code : (k : ℕ) → k < holder_codes → kind_of (hold_code + k) ≡ Zero (Hold k)
kind-hold-code k h = let e : hold_code + k - hold_code ≡ k = omega arith in kind-hold (hold_code + k) (omega arith) (omega arith) ∙ rw e

pub kind-unary : (o : Unary) → kind_of (unary_code o) ≡ One o
unfolding kind_of pick
kind-unary Not = refl
kind-unary Next = refl
kind-unary (Ever And) = refl
kind-unary (Ever Or) = refl

pub kind-binary : (o : Binary) → kind_of (binary_code o) ≡ Two o
unfolding kind_of pick
kind-binary (Joined And) = refl
kind-binary (Joined Or) = refl
kind-binary Until = refl

-- ---- what a byte's kind says of the byte: it is that node's own byte, and a proposition's or a place holder's number is below 64
pub data CodeOf (b : ℕ) : Kind → Type 0 where
  is_zero : {a : Leaf} → b ≡ leaf_code a → leaf_coded a → CodeOf b (Zero a)
  is_one : {o : Unary} → b ≡ unary_code o → CodeOf b (One o)
  is_two : {o : Binary} → b ≡ binary_code o → CodeOf b (Two o)
  is_none : CodeOf b NoCode

low-code : (b : ℕ) → CodeOf b (get_or named b NoCode)
low-code zero = is_zero {a = Const false} refl tt
low-code (suc zero) = is_zero {a = Const true} refl tt
low-code (suc (suc zero)) = is_one {o = Not} refl
low-code (suc (suc (suc zero))) = is_two {o = Joined And} refl
low-code (suc (suc (suc (suc zero)))) = is_two {o = Joined Or} refl
low-code (suc (suc (suc (suc (suc zero))))) = is_one {o = Next} refl
low-code (suc (suc (suc (suc (suc (suc zero)))))) = is_two {o = Until} refl
low-code (suc (suc (suc (suc (suc (suc (suc zero))))))) = is_one {o = Ever Or} refl
low-code (suc (suc (suc (suc (suc (suc (suc (suc zero)))))))) = is_one {o = Ever And} refl
low-code (suc (suc (suc (suc (suc (suc (suc (suc (suc b))))))))) = is_none

pub code : (b : ℕ) → CodeOf b (kind_of b)
unfolding kind_of pick
code b = go (ltb b prop_code) refl (ltb b hold_code) refl (ltb b end_code) refl
  where
    go : (x : Bool) → ltb b prop_code ≡ x → (y : Bool) → ltb b hold_code ≡ y → (z : Bool) → ltb b end_code ≡ z
        → CodeOf b (pick x (get_or named b NoCode) (pick y (Zero (Prop (b - prop_code))) (pick z (Zero (Hold (b - hold_code))) NoCode)))
    go true p y q z r = low-code b
    go false p true q z r = let h = ltb-false b prop_code p in let k = ltb-true b hold_code q in is_zero {a = Prop (b - prop_code)} (omega arith) (omega arith)
    go false p false q true r = let h = ltb-false b hold_code q in let k = ltb-true b end_code r in is_zero {a = Hold (b - hold_code)} (omega arith) (omega arith)
    go false p false q false r = is_none

pub kind-leaf : (a : Leaf) → leaf_coded a → kind_of (leaf_code a) ≡ Zero a
kind-leaf (Const v) h = kind-const v
kind-leaf (Prop i) h = kind-prop-code i h
kind-leaf (Hold k) h = kind-hold-code k h

-- ---- place holders alone are hold_code and more
pub unary-low : (o : Unary) → unary_code o < hold_code
unary-low Not = omega arith
unary-low Next = omega arith
unary-low (Ever And) = omega arith
unary-low (Ever Or) = omega arith

pub binary-low : (o : Binary) → binary_code o < hold_code
binary-low (Joined And) = omega arith
binary-low (Joined Or) = omega arith
binary-low Until = omega arith

-- ---- no node has more than two operands
pub operands-few : (k : Kind) → operands k ≤ 2
operands-few (Zero a) = omega arith
operands-few (One o) = omega arith
operands-few (Two o) = omega arith
operands-few NoCode = omega arith
