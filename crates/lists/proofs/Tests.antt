-- Laws of tests: false is not true and none not some, what a test that holds says of its parts, a value picked by a test, and that 0 has no bits.
-- Assumes nothing.
use mathlib.Core.Path.{◌≡◌, refl, sym, ap}
use mathlib.Core.Bool.{Bool, true, false}
use mathlib.Core.Option.{Option, none, some}
use Prim.Native.Nat.{ℕ, ◌%◌, ◌^◌}
use native.Mathlib.Nat.{zero-div}
use native.Mathlib.Omega.{arith}
use lib.Dec.{eqb}
use Rattle.lists.specs.Tests.{pick, both, either, bit}

pub no_true : false ≡ true → ⊥
no_true e = let z : ◌≡◌ {A = ℕ} 0 1 = cc in omega arith

pub no-some : {A : Type 0} (x : A) → ◌≡◌ {A = Option A} none (some x) → ⊥
no-some x e = let z : ◌≡◌ {A = ℕ} 0 1 = cc in omega arith

-- two tests that hold together are equal
pub test-eq : (x y : Bool) → (x ≡ true → y ≡ true) → (y ≡ true → x ≡ true) → x ≡ y
test-eq true y h k = sym (h refl)
test-eq false true h k = k refl
test-eq false false h k = refl

-- both of two tests
pub both-0 : (a b : Bool) → both a b ≡ true → a ≡ true
unfolding both
both-0 true b e = refl
both-0 false b e = e

pub both-1 : (a b : Bool) → both a b ≡ true → b ≡ true
unfolding both
both-1 true b e = e
both-1 false b e = absurd (no_true e)

pub both_true : (a b : Bool) → a ≡ true → b ≡ true → both a b ≡ true
unfolding both
both_true a b p q = rw (p, q)

-- one of two tests
pub either-elim : (a b : Bool) (Q : Type 0) → (a ≡ true → Q) → (b ≡ true → Q) → either a b ≡ true → Q
unfolding either
either-elim true b Q h k e = h refl
either-elim false b Q h k e = k e

pub either-right : (x : Bool) → either x true ≡ true
unfolding either
either-right true = refl
either-right false = refl

-- what is picked has a property that both choices have
pub pick-elim : {A : Type 0} (P : A → Type 0) (b : Bool) (x y : A) → (b ≡ true → P x) → (b ≡ false → P y) → P (pick b x y)
unfolding pick
pick-elim P true x y h k = h refl
pick-elim P false x y h k = k refl

-- a value picked and then worked on
pub pick-ap : {A B : Type 0} (f : A → B) (b : Bool) (x y : A) → f (pick b x y) ≡ pick b (f x) (f y)
unfolding pick
pick-ap f true x y = refl
pick-ap f false x y = refl

-- no bit of 0 is 1
pub no_bits : (i : ℕ) → bit 0 i ≡ false
unfolding bit
no_bits i = ap (λ (x : ℕ). eqb (x % 2) 1) (zero-div (2 ^ i))
