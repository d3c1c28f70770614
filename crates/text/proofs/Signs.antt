-- The bytes of the signs: one that is no sign by name is a digit or none (`unnamed`), a digit is below ten (`digit-few`), each sign's own byte
-- is that sign. Others use these. Assumes nothing.
use mathlib.Core.Path.{◌≡◌, refl}
use mathlib.Core.Bool.{Bool, true, false}
use Prim.Native.Nat.{ℕ, zero, suc, ◌+◌, ◌-◌, ◌≤◌, ◌<◌}
use native.Mathlib.Omega.{arith}
use lib.Dec.{leb}
use borrow.Author.Tests.{ne_eqb, le-leb, lt-leb, leb-true}
use Rattle.lists.specs.Tests.{pick, both}
use Rattle.lists.proofs.Tests.{pick-elim}
use Rattle.kinds.specs.declared.Unary.{Unary}
use Rattle.kinds.specs.declared.Unary.TheVariants.{Not, Next, Ever}
use Rattle.kinds.specs.declared.Join.TheVariants.{And, Or}
use Rattle.kinds.specs.declared.Binary.{Binary}
use Rattle.kinds.specs.declared.Binary.TheVariants.{Joined, Until}
use Rattle.text.specs.declared.Sign.{Sign}
use Rattle.text.specs.declared.Sign.TheVariants.{Prefix, Infix, Open, Close, Letter, Digit, Other}
use Rattle.text.specs.Signs.{sign_of, digit_of, level, loosest}
use Rattle.text.specs.Printing.{unary_sign, binary_sign, open_sign, close_sign}

pub unnamed : (b : ℕ) → (b ≡ 32 → ⊥) → (b ≡ 9 → ⊥) → (b ≡ 10 → ⊥) → (b ≡ 13 → ⊥) → (b ≡ 33 → ⊥) → (b ≡ 88 → ⊥) → (b ≡ 70 → ⊥) → (b ≡ 71 → ⊥) → (b ≡ 85 → ⊥) → (b ≡ 38 → ⊥) → (b ≡ 124 → ⊥) → (b ≡ 40 → ⊥) → (b ≡ 41 → ⊥) → (b ≡ 116 → ⊥) → (b ≡ 102 → ⊥) → (b ≡ 112 → ⊥)
    → sign_of b ≡ digit_of b
unfolding sign_of pick
unnamed b h32 h9 h10 h13 h33 h88 h70 h71 h85 h38 h124 h40 h41 h116 h102 h112 =
    rw (ne_eqb b 32 h32, ne_eqb b 9 h9, ne_eqb b 10 h10, ne_eqb b 13 h13, ne_eqb b 33 h33, ne_eqb b 88 h88, ne_eqb b 70 h70, ne_eqb b 71 h71, ne_eqb b 85 h85, ne_eqb b 38 h38, ne_eqb b 124 h124, ne_eqb b 40 h40, ne_eqb b 41 h41, ne_eqb b 116 h116, ne_eqb b 102 h102, ne_eqb b 112 h112)

-- ---- digits
pub digit_low : (b : ℕ) → b < 48 → digit_of b ≡ Other
unfolding digit_of pick both
digit_low b h = rw (lt-leb 48 b h)

pub digit-is : (b : ℕ) → 48 ≤ b → b < 58 → digit_of b ≡ Digit (b - 48)
unfolding digit_of pick both
digit-is b h l = let m : b ≤ 57 = omega arith in rw (le-leb 48 b h, le-leb b 57 m)

pub digit-high : (b : ℕ) → 48 ≤ b → 58 ≤ b → digit_of b ≡ Other
unfolding digit_of pick both
digit-high b h l = let m : 57 < b = omega arith in rw (le-leb 48 b h, lt-leb b 57 m)

-- a sign that is a digit is below ten
abbrev Few : Sign → Type 0
Few s = (m : ℕ) → s ≡ Digit m → m < 10

few-not : (s : Sign) → ((m : ℕ) → s ≡ Digit m → ◌≡◌ {A = ℕ} 0 1) → Few s
few-not s h m e = let z = h m e in absurd (omega arith)

digit-of-few : (b : ℕ) → Few (digit_of b)
unfolding digit_of pick both
digit-of-few b = go (leb 48 b) (leb b 57) refl
  where
    go : (x y : Bool) → leb b 57 ≡ y → Few (pick (both x y) (Digit (b - 48)) Other)
    go true true e m q = let z : b - 48 ≡ m = cc in let l = leb-true b 57 e in omega arith
    go true false e m q = few-not Other (λ n r. cc) m q
    go false y e m q = few-not Other (λ n r. cc) m q

pub digit-few : (b : ℕ) → Few (sign_of b)
unfolding sign_of
digit-few b =
    let no : (s : Sign) (t : Bool) (y : Sign) → ((m : ℕ) → s ≡ Digit m → ◌≡◌ {A = ℕ} 0 1) → Few y → Few (pick t s y) =
    λ s t y h q. pick-elim Few t s y (λ e. few-not s h) (λ e. q) in
    no _ _ _ (λ m e. cc) (no _ _ _ (λ m e. cc) (no _ _ _ (λ m e. cc) (no _ _ _ (λ m e. cc) (no _ _ _ (λ m e. cc) (no _ _ _ (λ m e. cc) (no _ _ _ (λ m e. cc) (no _ _ _ (λ m e. cc) (no _ _ _ (λ m e. cc) (no _ _ _ (λ m e. cc) (no _ _ _ (λ m e. cc) (no _ _ _ (λ m e. cc) (no _ _ _ (λ m e. cc) (no _ _ _ (λ m e. cc) (no _ _ _ (λ m e. cc) (no _ _ _ (λ m e. cc) (digit-of-few b))))))))))))))))

-- ---- each sign's own byte
pub unary-sign : (o : Unary) → sign_of (unary_sign o) ≡ Prefix o
unfolding sign_of pick
unary-sign Not = refl
unary-sign Next = refl
unary-sign (Ever Or) = refl
unary-sign (Ever And) = refl

pub binary-sign : (o : Binary) → sign_of (binary_sign o) ≡ Infix o
unfolding sign_of pick
binary-sign Until = refl
binary-sign (Joined And) = refl
binary-sign (Joined Or) = refl

pub open-sign : sign_of open_sign ≡ Open
unfolding sign_of pick
open-sign = refl

pub close-sign : sign_of close_sign ≡ Close
unfolding sign_of pick
close-sign = refl

pub letter-sign : sign_of 112 ≡ Letter
unfolding sign_of pick
letter-sign = refl

pub digit-sign : (n : ℕ) → n < 10 → sign_of (48 + n) ≡ Digit n
unfolding sign_of digit_of pick both
digit-sign zero h = refl
digit-sign (suc zero) h = refl
digit-sign (suc (suc zero)) h = refl
digit-sign (suc (suc (suc zero))) h = refl
digit-sign (suc (suc (suc (suc zero)))) h = refl
digit-sign (suc (suc (suc (suc (suc zero))))) h = refl
digit-sign (suc (suc (suc (suc (suc (suc zero)))))) h = refl
digit-sign (suc (suc (suc (suc (suc (suc (suc zero))))))) h = refl
digit-sign (suc (suc (suc (suc (suc (suc (suc (suc zero)))))))) h = refl
digit-sign (suc (suc (suc (suc (suc (suc (suc (suc (suc zero))))))))) h = refl
digit-sign (suc (suc (suc (suc (suc (suc (suc (suc (suc (suc n)))))))))) h = absurd (omega arith)

-- every infix sign binds tighter than the loosest level
pub level-low : (o : Binary) → level o < loosest
level-low Until = omega arith
level-low (Joined And) = omega arith
level-low (Joined Or) = omega arith
