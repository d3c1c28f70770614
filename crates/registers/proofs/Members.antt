-- Numbers in lists: `OneOf m ks`, the test for it (`among-is`, `among_of`), and the place holders of a formula as a list and as a
-- condition (`holds-each`, `holds-all`). Assumes nothing.
use mathlib.Core.Path.{◌≡◌, refl, sym, subst}
use mathlib.Core.Bool.{Bool, true, false}
use mathlib.Core.List.{List, [], ◌∷◌, ◌++◌}
use mathlib.Core.Logic.{◌⊎◌, inl, inr, ⊎_elim}
use Prim.Native.Nat.{ℕ}
use lib.Dec.{eqb}
use borrow.Author.Tests.{eqb-true, eq-eqb}
use Rattle.lists.specs.Tests.{either}
use Rattle.lists.proofs.Tests.{no_true, either-elim, either-right}
use Rattle.kinds.specs.declared.Leaf.TheVariants.{Const, Prop, Hold}
use Rattle.kinds.specs.declared.Unary.TheVariants.{Not, Next, Ever}
use Rattle.kinds.specs.declared.Binary.TheVariants.{Joined, Until}
use Rattle.ltl.specs.Formula.{Formula, leaf, one, two}
use Rattle.network.proofs.Laying.{HoldsIn}
use Rattle.registers.specs.Relaying.{holds_of, is_among}

-- m stands in the list
pub data OneOf (m : ℕ) : List ℕ → Type 0 where
  one-here : {n : ℕ} {ns : List ℕ} → m ≡ n → OneOf m (n ∷ ns)
  one-there : {n : ℕ} {ns : List ℕ} → OneOf m ns → OneOf m (n ∷ ns)

pub one_left : {m : ℕ} {xs : List ℕ} (ys : List ℕ) → OneOf m xs → OneOf m (xs ++ ys)
one_left ys (one-here e) = one-here e
one_left ys (one-there a) = one-there (one_left ys a)

pub one_right : {m : ℕ} (xs : List ℕ) {ys : List ℕ} → OneOf m ys → OneOf m (xs ++ ys)
one_right [] a = a
one_right (x ∷ xs) a = one-there (one_right xs a)

pub one_split : (m : ℕ) (xs ys : List ℕ) → OneOf m (xs ++ ys) → OneOf m xs ⊎ OneOf m ys
one_split m [] ys a = inr a
one_split m (x ∷ xs) ys (one-here e) = inl (one-here e)
one_split m (x ∷ xs) ys (one-there a) = ⊎_elim (λ i. inl (one-there i)) inr (one_split m xs ys a)

pub among-is : (m : ℕ) (ks : List ℕ) → is_among m ks ≡ true → OneOf m ks
unfolding is_among
among-is m [] e = absurd (no_true e)
among-is m (k ∷ ks) e = either-elim (eqb m k) (is_among m ks) (OneOf m (k ∷ ks)) (λ p. one-here (eqb-true m k p)) (λ p. one-there (among-is m ks p)) e

pub among_of : (m : ℕ) (ks : List ℕ) → OneOf m ks → is_among m ks ≡ true
unfolding is_among either
among_of m (k ∷ ks) (one-here e) = rw (eq-eqb m k e)
among_of m (k ∷ ks) (one-there a) = rw (among_of m ks a) (either-right (eqb m k))
among_of m [] x' = elim x' [ ]

pub one_none : (m : ℕ) → OneOf m [] → ⊥
unfolding is_among
one_none m a = no_true (among_of m [] a)

pub among_one : (m k : ℕ) → is_among m (k ∷ []) ≡ eqb m k
unfolding is_among either
among_one m k = go (eqb m k)
  where
    go : (b : Bool) → either b false ≡ b
    go true = refl
    go false = refl

pub among-both : (m : ℕ) (xs ys : List ℕ) → is_among m (xs ++ ys) ≡ either (is_among m xs) (is_among m ys)
unfolding is_among either
among-both m [] ys = refl
among-both m (x ∷ xs) ys = go (eqb m x) (among-both m xs ys)
  where
    go : (b : Bool) → is_among m (xs ++ ys) ≡ either (is_among m xs) (is_among m ys) → either b (is_among m (xs ++ ys)) ≡ either (either b (is_among m xs)) (is_among m ys)
    go true e = refl
    go false e = e

-- ---- the place holders of a formula
pub holds-each : (Q : ℕ → Type 0) (f : Formula) → HoldsIn Q f → (m : ℕ) → OneOf m (holds_of f) → Q m
unfolding holds_of
holds-each Q (leaf (Const v)) h m a = absurd (one_none m a)
holds-each Q (leaf (Prop i)) h m a = absurd (one_none m a)
holds-each Q (leaf (Hold k)) h m (one-here e) = subst Q (sym e) h
holds-each Q (leaf (Hold k)) h m (one-there a) = absurd (one_none m a)
holds-each Q (one Not f) h m a = holds-each Q f h m a
holds-each Q (one Next f) h m a = absurd (one_none m a)
holds-each Q (one (Ever j) f) h m a = absurd (one_none m a)
holds-each Q (two (Joined j) f g) h m a = ⊎_elim (λ i. holds-each Q f h.0 m i) (λ i. holds-each Q g h.1 m i) (one_split m (holds_of f) (holds_of g) a)
holds-each Q (two Until f g) h m a = absurd (one_none m a)

pub holds-all : (Q : ℕ → Type 0) (f : Formula) → ((m : ℕ) → OneOf m (holds_of f) → Q m) → HoldsIn Q f
unfolding holds_of
holds-all Q (leaf (Const v)) h = tt
holds-all Q (leaf (Prop i)) h = tt
holds-all Q (leaf (Hold k)) h = h k (one-here refl)
holds-all Q (one Not f) h = holds-all Q f h
holds-all Q (one Next f) h = tt
holds-all Q (one (Ever j) f) h = tt
holds-all Q (two (Joined j) f g) h = (holds-all Q f (λ m a. h m (one_left (holds_of g) a)), holds-all Q g (λ m a. h m (one_right (holds_of f) a)))
holds-all Q (two Until f g) h = tt
