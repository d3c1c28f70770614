-- The print is a text of the formula that is printed, so that it reads back; and it is at most four bytes a node, and one. Others use
-- `printed-text`, `printed-back`, `printed-few`. Assumes nothing.
use mathlib.Core.Path.{◌≡◌, refl, subst}
use mathlib.Core.Bool.{Bool, true, false}
use mathlib.Core.List.{List, [], ◌∷◌, ◌++◌}
use mathlib.Core.Logic.{⊎_elim}
use Prim.Native.Nat.{ℕ, zero, suc, ◌+◌, ◌*◌, ◌/◌, ◌%◌, ◌≤◌, ◌<◌}
use native.Mathlib.Nat.{eq-or-lt_of_le, le_of_suc-le-suc}
use native.Mathlib.Omega.{arith}
use lib.ListN.{length}
use lib.Dec.{ltb}
use borrow.Author.Tests.{ltb-true, ltb-false}
use Rattle.lists.specs.Tests.{pick}
use Rattle.limits.specs.Limits.{propositions_most}
use Rattle.kinds.specs.declared.Leaf.{Leaf}
use Rattle.kinds.specs.declared.Leaf.TheVariants.{Const, Prop, Hold}
use Rattle.kinds.specs.Kinds.{leaf_within}
use Rattle.ltl.specs.Formula.{Formula, leaf, one, two, constant, size, Within}
use Rattle.text.specs.Signs.{sign_of, level, loosest}
use Rattle.text.specs.Grammar.{none, Figures, first, further, Named, truth, proposition, Spells, word, prefixed, bracketed, alone, joined, Text}
use Rattle.text.specs.Printing.{binary_sign, open_sign, close_sign, constant_text, digits, leaf_text, shown, printed}
use Rattle.text.proofs.Signs.{unary-sign, binary-sign, open-sign, close-sign, letter-sign, digit-sign, level-low}
use Rattle.text.proofs.Derives.{raised}
use Rattle.text.proofs.Unique.{text-one}

-- ---- a text of the formula
-- a text of one level is one of every looser level
lifted : {k : ℕ} {f : Formula} {a b : List ℕ} → Spells k f a b → (m : ℕ) → k ≤ m → Spells m f a b
lifted {f = f} {a = a} {b = b} r zero l = subst (λ (n : ℕ). Spells n f a b) (omega arith) r
lifted {f = f} {a = a} {b = b} r (suc m) l = ⊎_elim (λ e. subst (λ (n : ℕ). Spells n f a b) e r) (λ h. alone (lifted r m (le_of_suc-le-suc h))) (eq-or-lt_of_le l)

constant-named : (v : Bool) (b : List ℕ) → Named (constant v) (constant_text v ++ b) b
unfolding sign_of pick
constant-named true b = truth refl refl
constant-named false b = truth refl refl

digits-figures : (n : ℕ) (b : List ℕ) → n < propositions_most → Figures n (digits n ++ b) b
unfolding pick
digits-figures n b h = go (ltb n 10) refl
  where
    go : (z : Bool) → ltb n 10 ≡ z → Figures n (pick z ((48 + n) ∷ []) ((48 + n / 10) ∷ (48 + n % 10) ∷ []) ++ b) b
    go true e = first (digit-sign n (ltb-true n 10 e))
    go false e =
        let l = ltb-false n 10 e in
        subst (λ (m : ℕ). Figures m ((48 + n / 10) ∷ (48 + n % 10) ∷ b) b) (omega arith)
        (further (first (digit-sign (n / 10) (omega arith))) (omega arith) (digit-sign (n % 10) (omega arith)))

leaf-named : (a : Leaf) (b : List ℕ) → leaf_within propositions_most 0 a → Named (leaf a) (leaf_text a ++ b) b
leaf-named (Const v) b c = constant-named v b
leaf-named (Prop n) b c = proposition letter-sign (digits-figures n b c) c
leaf-named (Hold k) b c = absurd (omega arith)

-- the print of f, at a place of level k, is a text of f of that level
shown-spells : (f : Formula) (k : ℕ) (b : List ℕ) → Within propositions_most 0 f → k ≤ loosest → Spells k f (shown f k b) b
unfolding pick
shown-spells (leaf a) k b c l = raised (word (leaf-named a b c) (none refl)) k
shown-spells (one o f) k b c l = raised (prefixed (unary-sign o) (none refl) (shown-spells f 0 b c (omega arith))) k
shown-spells (two o f g) k b c l =
    go (ltb (level o) k) refl (level-low o)
    (λ t. joined (shown-spells f (level o) (binary_sign o ∷ shown g (suc (level o)) t) c.0 (omega (arith, level-low o))) (binary-sign o) refl (none refl)
    (shown-spells g (suc (level o)) t c.1 (level-low o)))
  where
    go : (z : Bool) → ltb (level o) k ≡ z → level o < loosest
        → ((t : List ℕ) → Spells (suc (level o)) (two o f g) (shown f (level o) (binary_sign o ∷ shown g (suc (level o)) t)) t)
        → Spells k (two o f g) (pick z (shown f (level o) (binary_sign o ∷ shown g (suc (level o)) b)) (open_sign ∷ shown f (level o) (binary_sign o ∷ shown g (suc (level o)) (close_sign ∷ b)))) b
    go true e m r = lifted (r b) k (ltb-true (level o) k e)
    go false e m r = raised (bracketed open-sign (none refl) (lifted (r (close_sign ∷ b)) loosest m) close-sign (none refl)) k

-- the print is a text of the formula that is printed
pub printed-text : (f : Formula) → Within propositions_most 0 f → Text (printed f) f
printed-text f c = record { start = printed f; gap = none refl; spells = shown-spells f loosest [] c (omega arith) }

-- whatever formula the print is read as is the one that was printed
pub printed-back : (f g : Formula) → Within propositions_most 0 f → Text (printed f) g → g ≡ f
printed-back f g c x = text-one x (printed-text f c)

-- ---- how long it is
leaf-short : (a : Leaf) (b : List ℕ) → length (leaf_text a ++ b) ≤ 5 + length b
unfolding pick
leaf-short (Const true) b = omega arith
leaf-short (Const false) b = omega arith
leaf-short (Prop n) b = go (ltb n 10)
  where
    go : (z : Bool) → length (112 ∷ (pick z ((48 + n) ∷ []) ((48 + n / 10) ∷ (48 + n % 10) ∷ []) ++ b)) ≤ 5 + length b
    go true = omega arith
    go false = omega arith
leaf-short (Hold k) b = omega arith

shown-short : (f : Formula) (k : ℕ) (b : List ℕ) → length (shown f k b) ≤ 4 * size f + 1 + length b
unfolding pick
shown-short (leaf a) k b = let q = leaf-short a b in omega arith
shown-short (one o f) k b = let q = shown-short f 0 b in omega arith
shown-short (two o f g) k b =
    go (ltb (level o) k) (λ t. shown-short f (level o) (binary_sign o ∷ shown g (suc (level o)) t)) (λ t. shown-short g (suc (level o)) t)
  where
    go : (z : Bool)
        → ((t : List ℕ) → length (shown f (level o) (binary_sign o ∷ shown g (suc (level o)) t)) ≤ 4 * size f + 1 + length (binary_sign o ∷ shown g (suc (level o)) t))
        → ((t : List ℕ) → length (shown g (suc (level o)) t) ≤ 4 * size g + 1 + length t)
        → length (pick z (shown f (level o) (binary_sign o ∷ shown g (suc (level o)) b)) (open_sign ∷ shown f (level o) (binary_sign o ∷ shown g (suc (level o)) (close_sign ∷ b))))
        ≤ 4 * (1 + size f + size g) + 1 + length b
    go true p q = let u = p b in let v = q b in omega arith
    go false p q = let u = p (close_sign ∷ b) in let v = q (close_sign ∷ b) in omega arith

-- a print has at most four bytes a node, and one
pub printed-few : (f : Formula) → length (printed f) ≤ 4 * size f + 1
printed-few f = let q = shown-short f loosest [] in omega arith

-- and `false` has as many
pub printed-false : length (printed (constant false)) ≡ 4 * size (constant false) + 1
printed-false = refl
