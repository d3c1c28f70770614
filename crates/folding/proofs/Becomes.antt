-- What `folded_one` and `folded_two` give, by what the notes of their operands tell. Assumes nothing.
use mathlib.Core.Path.{◌≡◌}
use mathlib.Core.Bool.{Bool, true, false, not}
use Rattle.lists.specs.Tests.{pick, either}
use Rattle.lists.proofs.Tests.{either-right}
use Rattle.kinds.specs.declared.Unary.{Unary}
use Rattle.kinds.specs.declared.Unary.TheVariants.{Not, Next, Ever}
use Rattle.kinds.specs.declared.Join.{Join}
use Rattle.kinds.specs.declared.Binary.TheVariants.{Joined, Until}
use Rattle.ltl.specs.Formula.{Formula, one, two, constant, join}
use Rattle.ltl.specs.Progression.{is_constant, negated, deciding}
use Rattle.ltl.proofs.Joining.{constant-self, constant-other, by_left, by_right, by-skip, by-keep, by-none}
use Rattle.folded.specs.Folding.{is_either, folded_one, folded_two}
use Rattle.folded.proofs.Cases.{either-constant, either-none}

-- ---- an operator over a constant
pub not-constant : (v : Bool) → folded_one Not (constant v) ≡ constant (not v)
unfolding folded_one negated pick
not-constant true = rw (constant-self true)
not-constant false = rw (constant-other true, constant-self false)

pub next-constant : (v : Bool) → folded_one Next (constant v) ≡ constant v
unfolding folded_one pick
next-constant v = rw (either-constant v)

pub ever-constant : (j : Join) (v : Bool) → folded_one (Ever j) (constant v) ≡ constant v
unfolding folded_one pick
ever-constant j v = rw (either-constant v)

-- ---- over a formula that is none
pub one-open : (o : Unary) (f : Formula) → ((v : Bool) → is_constant v f ≡ false) → folded_one o f ≡ one o f
unfolding folded_one negated pick
one-open Not f p = rw (p true, p false)
one-open Next f p = rw (either-none f p)
one-open (Ever j) f p = rw (either-none f p)

-- ---- a join
module _ (j : Join) (l r : Formula) where
  -- an operand settles it
  pub join-left : l ≡ constant (deciding j) → folded_two (Joined j) l r ≡ constant (deciding j)
  unfolding folded_two
  join-left = by_left j l r (join j l r)

  pub join-right : r ≡ constant (deciding j) → folded_two (Joined j) l r ≡ constant (deciding j)
  unfolding folded_two
  join-right = by_right j l r (join j l r)

  -- the left one says nothing
  pub join-skip : l ≡ constant (not (deciding j)) → folded_two (Joined j) l r ≡ r
  unfolding folded_two
  join-skip = by-skip j l r (join j l r)

  module _ (p : (v : Bool) → is_constant v l ≡ false) where
    -- the right one says nothing
    pub join-keep : r ≡ constant (not (deciding j)) → folded_two (Joined j) l r ≡ l
    unfolding folded_two
    join-keep = by-keep j l r (join j l r) p

    -- neither is a constant
    pub join-both : ((v : Bool) → is_constant v r ≡ false) → folded_two (Joined j) l r ≡ join j l r
    unfolding folded_two
    join-both = by-none j l r (join j l r) p

-- ---- until
module _ (f g : Formula) where
  pub until-right : (v : Bool) → g ≡ constant v → folded_two Until f g ≡ g
  unfolding folded_two pick either
  until-right v e = rw (e, either-constant v)

  pub until-left : f ≡ constant false → folded_two Until f g ≡ g
  unfolding folded_two pick
  until-left e = rw (e, constant-self false, either-right (is_either g))

  pub until-both : is_constant false f ≡ false → ((v : Bool) → is_constant v g ≡ false) → folded_two Until f g ≡ two Until f g
  unfolding folded_two pick either
  until-both p q = rw (either-none g q, p)
