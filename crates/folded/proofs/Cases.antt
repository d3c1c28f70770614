-- What folding may give, by cases, so that nobody opens its definitions again. The test for a constant: `either_is`, `either-not`,
-- `either-constant`, `either-none`, `either-never`; `constant-injective`: the two constants differ. What a node becomes, where whatever holds in each
-- case holds of it: `folded-not-cases`, `folded-next-cases`, `folded-ever-cases`, and `folded-one-cases` for all three by what an
-- operator makes of a constant (`of_constant`); `folded-join-cases`, `folded-until-cases`. `negated-cases` is the same for not as
-- resolving has it. Assumes nothing.
use mathlib.Core.Path.{◌≡◌, refl, sym, ap, ◌∙◌, subst}
use mathlib.Core.Bool.{Bool, true, false, not}
use Rattle.lists.specs.Tests.{pick, either}
use Rattle.kinds.specs.declared.Unary.{Unary}
use Rattle.kinds.specs.declared.Unary.TheVariants.{Not, Next, Ever}
use Rattle.kinds.specs.declared.Join.{Join}
use Rattle.kinds.specs.declared.Binary.TheVariants.{Joined, Until}
use Rattle.ltl.specs.Formula.{Formula, one, two, constant, join, same_bool}
use Rattle.ltl.specs.Progression.{is_constant, negated, deciding}
use Rattle.folded.specs.Folding.{is_either, folded_one, folded_two}
use Rattle.lists.proofs.Tests.{no_true, either-elim, pick-elim}
use Rattle.ltl.proofs.Joining.{constant-is, two_ways, constants-cases}

-- ---- the test for a constant
pub either_is : (f : Formula) → is_either f ≡ true → (v : Bool) × (f ≡ constant v)
unfolding is_either
either_is f e =
    either-elim (is_constant true f) (is_constant false f) ((v : Bool) × (f ≡ constant v)) (λ h. (true, constant-is true f h)) (λ h. (false, constant-is false f h)) e

pub either-not : (f : Formula) → is_either f ≡ false → (v : Bool) → is_constant v f ≡ false
unfolding is_either either
either-not f e v = go (is_constant true f) refl (is_constant false f) refl e
  where
    go : (a : Bool) → is_constant true f ≡ a → (b : Bool) → is_constant false f ≡ b → either a b ≡ false → is_constant v f ≡ false
    go true p b q h = absurd (no_true (sym h))
    go false p true q h = absurd (no_true (sym h))
    go false p false q h = two_ways true v f p q

pub either-constant : (v : Bool) → is_either (constant v) ≡ true
unfolding is_either either is_constant same_bool
either-constant true = refl
either-constant false = refl

-- what the test denies is no constant
pub either-never : (f : Formula) (v : Bool) → is_either f ≡ false → f ≡ constant v → ⊥
either-never f v n e = no_true (sym n ∙ ap is_either e ∙ either-constant v)

-- equal constants have equal values
pub constant-injective : (v w : Bool) → constant v ≡ constant w → v ≡ w
constant-injective v w e = cc

-- neither of the constants
pub either-none : (f : Formula) → ((v : Bool) → is_constant v f ≡ false) → is_either f ≡ false
unfolding is_either either
either-none f p = rw (p true, p false)

-- ---- a node with one operand
pub negated-cases : (P : Formula → Type 0) (f : Formula)
    → (f ≡ constant true → P (constant false))
    → (f ≡ constant false → P (constant true))
    → (is_either f ≡ false → P (one Not f))
    → P (negated f)
unfolding negated
negated-cases P f t n h =
    pick-elim P (is_constant true f) _ _ (λ k. t (constant-is _ f k))
    (λ a. pick-elim P (is_constant false f) _ _ (λ k. n (constant-is _ f k)) (λ b. h (either-none f (λ v. two_ways true v f a b))))

pub folded-not-cases : (P : Formula → Type 0) (f : Formula)
    → (f ≡ constant true → P (constant false))
    → (f ≡ constant false → P (constant true))
    → (is_either f ≡ false → P (one Not f))
    → P (folded_one Not f)
unfolding folded_one
folded-not-cases P f t n h = negated-cases P f t n h

pub folded-next-cases : (P : Formula → Type 0) (f : Formula) → (is_either f ≡ true → P f) → (is_either f ≡ false → P (one Next f)) → P (folded_one Next f)
unfolding folded_one
folded-next-cases P f t h = pick-elim P (is_either f) _ _ t h

pub folded-ever-cases : (P : Formula → Type 0) (j : Join) (f : Formula)
    → (is_either f ≡ true → P f)
    → (is_either f ≡ false → P (one (Ever j) f))
    → P (folded_one (Ever j) f)
unfolding folded_one
folded-ever-cases P j f t h = pick-elim P (is_either f) _ _ t h

-- what an operator makes of a constant
abbrev pub of_constant : Unary → Bool → Bool
of_constant Not v = not v
of_constant Next v = v
of_constant (Ever j) v = v

pub folded-one-cases : (P : Formula → Type 0) (o : Unary) (f : Formula)
    → ((v : Bool) → f ≡ constant v → P (constant (of_constant o v)))
    → (is_either f ≡ false → P (one o f))
    → P (folded_one o f)
folded-one-cases P Not f t h = folded-not-cases P f (t true) (t false) h
folded-one-cases P Next f t h = folded-next-cases P f (λ e. let c = either_is f e in subst P (sym c.1) (t c.0 c.1)) h
folded-one-cases P (Ever j) f t h = folded-ever-cases P j f (λ e. let c = either_is f e in subst P (sym c.1) (t c.0 c.1)) h

-- ---- a node with two operands
pub folded-join-cases : (P : Formula → Type 0) (j : Join) (l r : Formula)
    → (l ≡ constant (deciding j) → P (constant (deciding j)))
    → (r ≡ constant (deciding j) → P (constant (deciding j)))
    → (l ≡ constant (not (deciding j)) → P r)
    → (r ≡ constant (not (deciding j)) → P l)
    → (is_either l ≡ false → is_either r ≡ false → P (join j l r))
    → P (folded_two (Joined j) l r)
unfolding folded_two
folded-join-cases P j l r dl dr nl nr h = constants-cases P j l r (join j l r) dl dr nl nr (λ p q. h (either-none l p) (either-none r q))

pub folded-until-cases : (P : Formula → Type 0) (f g : Formula)
    → (is_either g ≡ true → P g)
    → (f ≡ constant false → P g)
    → (is_either g ≡ false → is_constant false f ≡ false → P (two Until f g))
    → P (folded_two Until f g)
unfolding folded_two pick either
folded-until-cases P f g c n h = go (is_either g) refl (is_constant false f) refl
  where
    go : (a : Bool) → is_either g ≡ a → (b : Bool) → is_constant false f ≡ b → P (pick (either a b) g (two Until f g))
    go true p b q = c p
    go false p true q = n (constant-is false f q)
    go false p false q = h p q
