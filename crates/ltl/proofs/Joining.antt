-- What `by_constants`, `joined` and `negated` may give, by cases: `constants-cases` and `joined-cases` with what is known of the operands in
-- each, `joined-elim` without; `by_left` and its like as equations; and the members of a formula as a family. Assumes nothing.
use mathlib.Core.Path.{◌≡◌, refl, sym, subst}
use mathlib.Core.Bool.{Bool, true, false, not}
use Rattle.lists.specs.Tests.{pick, either}
use Rattle.kinds.specs.declared.Leaf.TheVariants.{Const, Prop, Hold}
use Rattle.kinds.specs.declared.Unary.TheVariants.{Not}
use Rattle.kinds.specs.declared.Join.{Join}
use Rattle.kinds.specs.declared.Binary.TheVariants.{Joined, Until}
use Rattle.ltl.specs.Formula.{Formula, leaf, one, two, constant, join, same_bool, same_join, same}
use Rattle.ltl.specs.Progression.{verdict_of, is_constant, negated, deciding, member, by_constants, joined}
use Rattle.lists.proofs.Tests.{no_true, either-elim, either-right, pick-elim}
use Rattle.ltl.proofs.Equal.{same-eq, join-eq, same_bool-refl}
use Rattle.answers.specs.declared.Verdict.TheVariants.{Pending}

-- ---- a constant is what the test says
pub constant-is : (v : Bool) (f : Formula) → is_constant v f ≡ true → f ≡ constant v
unfolding is_constant same_bool
constant-is true (leaf (Const true)) e = refl
constant-is true (leaf (Const false)) e = absurd (no_true e)
constant-is false (leaf (Const true)) e = absurd (no_true e)
constant-is false (leaf (Const false)) e = refl
constant-is v (leaf (Prop i)) e = absurd (no_true e)
constant-is v (leaf (Hold k)) e = absurd (no_true e)
constant-is v (one o f) e = absurd (no_true e)
constant-is v (two o f g) e = absurd (no_true e)

-- ---- and a constant passes it, the other one does not
not_same : (v : Bool) → same_bool v (not v) ≡ false
unfolding same_bool
not_same true = refl
not_same false = refl

pub constant-self : (v : Bool) → is_constant v (constant v) ≡ true
unfolding is_constant
constant-self v = same_bool-refl v

pub constant-other : (v : Bool) → is_constant v (constant (not v)) ≡ false
unfolding is_constant
constant-other v = not_same v

-- ---- what is no constant is pending
pub pending : (f : Formula) → ((v : Bool) → is_constant v f ≡ false) → verdict_of f ≡ Pending
unfolding is_constant same_bool
pending (leaf (Const true)) p = absurd (no_true (sym (p true)))
pending (leaf (Const false)) p = absurd (no_true (sym (p false)))
pending (leaf (Prop i)) p = refl
pending (leaf (Hold k)) p = refl
pending (one o f) p = refl
pending (two o f g) p = refl

pub two_ways : (w v : Bool) (f : Formula) → is_constant w f ≡ false → is_constant (not w) f ≡ false → is_constant v f ≡ false
two_ways true true f a b = a
two_ways true false f a b = b
two_ways false true f a b = b
two_ways false false f a b = a

-- ---- and, or by their constants
-- what `by_constants` gives, by cases, with what is known of the operands in each
pub constants-cases : (P : Formula → Type 0) (j : Join) (l r otherwise : Formula)
    → (l ≡ constant (deciding j) → P (constant (deciding j)))
    → (r ≡ constant (deciding j) → P (constant (deciding j)))
    → (l ≡ constant (not (deciding j)) → P r)
    → (r ≡ constant (not (deciding j)) → P l)
    → (((v : Bool) → is_constant v l ≡ false) → ((v : Bool) → is_constant v r ≡ false) → P otherwise)
    → P (by_constants j l r otherwise)
unfolding pick either
constants-cases P j l r otherwise dl dr nl nr h =
    go (is_constant (deciding j) l) refl (is_constant (deciding j) r) refl (is_constant (not (deciding j)) l) refl (is_constant (not (deciding j)) r) refl
  where
    go : (a : Bool) → is_constant (deciding j) l ≡ a → (b : Bool) → is_constant (deciding j) r ≡ b → (c : Bool) → is_constant (not (deciding j)) l ≡ c
        → (d : Bool) → is_constant (not (deciding j)) r ≡ d → P (pick (either a b) (constant (deciding j)) (pick c r (pick d l otherwise)))
    go true p b q c s d t = dl (constant-is (deciding j) l p)
    go false p true q c s d t = dr (constant-is (deciding j) r q)
    go false p false q true s d t = nl (constant-is (not (deciding j)) l s)
    go false p false q false s true t = nr (constant-is (not (deciding j)) r t)
    go false p false q false s false t = h (λ v. two_ways (deciding j) v l p s) (λ v. two_ways (deciding j) v r q t)

-- the same as equations
module _ (j : Join) (l r otherwise : Formula) where
  -- the left operand settles it
  pub by_left : l ≡ constant (deciding j) → by_constants j l r otherwise ≡ constant (deciding j)
  unfolding pick either
  by_left e = rw (e, constant-self (deciding j))

  -- the right one does
  pub by_right : r ≡ constant (deciding j) → by_constants j l r otherwise ≡ constant (deciding j)
  unfolding pick
  by_right e = rw (e, constant-self (deciding j), either-right (is_constant (deciding j) l))

  -- the left one says nothing
  pub by-skip : l ≡ constant (not (deciding j)) → by_constants j l r otherwise ≡ r
  unfolding pick either
  by-skip e = rw (e, constant-other (deciding j), constant-self (not (deciding j))) (go (is_constant (deciding j) r) refl)
    where
      go : (x : Bool) → is_constant (deciding j) r ≡ x → pick x (constant (deciding j)) r ≡ r
      go true q = sym (constant-is (deciding j) r q)
      go false q = refl

  module _ (p : (v : Bool) → is_constant v l ≡ false) where
    -- the right one says nothing
    pub by-keep : r ≡ constant (not (deciding j)) → by_constants j l r otherwise ≡ l
    unfolding pick either
    by-keep e = rw (p (deciding j), p (not (deciding j)), e, constant-other (deciding j), constant-self (not (deciding j)))

    -- neither is a constant
    pub by-none : ((v : Bool) → is_constant v r ≡ false) → by_constants j l r otherwise ≡ otherwise
    unfolding pick either
    by-none q = rw (p (deciding j), p (not (deciding j)), q (deciding j), q (not (deciding j)))

-- ---- what `joined` gives, by cases, with what is known of the operands in each
pub joined-cases : (P : Formula → Type 0) (j : Join) (l r : Formula)
    → (l ≡ constant (deciding j) → P (constant (deciding j)))
    → (r ≡ constant (deciding j) → P (constant (deciding j)))
    → (l ≡ constant (not (deciding j)) → P r)
    → (r ≡ constant (not (deciding j)) → P l)
    → (member j l r ≡ true → verdict_of l ≡ Pending → verdict_of r ≡ Pending → P r)
    → (verdict_of l ≡ Pending → verdict_of r ≡ Pending → P (join j l r))
    → P (joined j l r)
unfolding joined
joined-cases P j l r dl dr nl nr m h =
    constants-cases P j l r (pick (member j l r) r (join j l r)) dl dr nl nr
    (λ p q. pick-elim P (member j l r) r (join j l r) (λ u. m u (pending l p) (pending r q)) (λ u. h (pending l p) (pending r q)))

-- the same without
pub joined-elim : (P : Formula → Type 0) (j : Join) (l r : Formula)
    → (l ≡ constant (deciding j) → P (constant (deciding j)))
    → (r ≡ constant (deciding j) → P (constant (deciding j)))
    → (l ≡ constant (not (deciding j)) → P r)
    → (r ≡ constant (not (deciding j)) → P l)
    → (member j l r ≡ true → P r)
    → P (join j l r)
    → P (joined j l r)
joined-elim P j l r dl dr nl nr m h = joined-cases P j l r dl dr nl nr (λ q x y. m q) (λ x y. h)

pub negated-elim : (P : Formula → Type 0) (f : Formula) → (f ≡ constant true → P (constant false)) → (f ≡ constant false → P (constant true)) → P (one Not f) → P (negated f)
unfolding negated
negated-elim P f t n h =
    pick-elim P (is_constant true f) _ _ (λ k. t (constant-is _ f k)) (λ _. pick-elim P (is_constant false f) _ _ (λ k. n (constant-is _ f k)) (λ _. h))

-- ---- the members of a formula
pub data Member (j : Join) (l : Formula) : Formula → Type 0 where
  whole : {r : Formula} → l ≡ r → Member j l r
  on_left : {f g : Formula} → l ≡ f → Member j l (join j f g)
  on_right : {f g : Formula} → Member j l g → Member j l (join j f g)

pub member_is : (j : Join) (l r : Formula) → member j l r ≡ true → Member j l r
unfolding member pick
member_is j l (leaf a) e = whole (same-eq l (leaf a) e)
member_is j l (one o f) e = whole (same-eq l (one o f) e)
member_is j l (two Until f g) e = whole (same-eq l (two Until f g) e)
member_is j l (two (Joined k) f g) e =
    either-elim (same l (join k f g)) (pick (same_join j k) (either (same l f) (member j l g)) false) (Member j l (join k f g))
    (λ q. whole (same-eq l (join k f g) q))
    (λ q. chain (same_join j k) refl (member_is j l g) q)
    e
  where
    chain : (b : Bool) → same_join j k ≡ b → (member j l g ≡ true → Member j l g) → pick b (either (same l f) (member j l g)) false ≡ true → Member j l (join k f g)
    chain true n ih q =
        subst (λ (x : Join). Member j l (join x f g)) (join-eq j k n)
        (either-elim (same l f) (member j l g) (Member j l (join j f g)) (λ h. on_left (same-eq l f h)) (λ h. on_right (ih h)) q)
    chain false n ih q = absurd (no_true q)
