-- Place holders outside next and the temporal operators: a fact of each carried over (`holds-map`), where there is none
-- (`free-holds`), after unfolding (`unfolded-holds`), and from a test (`only-holds`). Assumes nothing.
use mathlib.Core.Path.{◌≡◌}
use mathlib.Core.Bool.{Bool, true}
use mathlib.Core.Option.{Option}
use Prim.Native.Nat.{ℕ}
use Rattle.lists.proofs.Tests.{both-0, both-1}
use Rattle.kinds.specs.declared.Leaf.TheVariants.{Const, Prop, Hold}
use Rattle.kinds.specs.declared.Unary.TheVariants.{Not, Next, Ever}
use Rattle.kinds.specs.declared.Binary.TheVariants.{Joined, Until}
use Rattle.ltl.specs.Formula.{Formula, leaf, one, two}
use Rattle.ltl.specs.Progression.{unfolded}
use Rattle.network.specs.Tick.{holds_only}
use Rattle.network.proofs.Owned.{Free, Clean, unfolded-free}
use Rattle.network.proofs.Laying.{HoldsIn}

pub holds-map : (Q R : ℕ → Type 0) → ((m : ℕ) → Q m → R m) → (f : Formula) → HoldsIn Q f → HoldsIn R f
holds-map Q R h (leaf (Const v)) x = tt
holds-map Q R h (leaf (Prop i)) x = tt
holds-map Q R h (leaf (Hold m)) x = h m x
holds-map Q R h (one Not f) x = holds-map Q R h f x
holds-map Q R h (one Next f) x = tt
holds-map Q R h (one (Ever j) f) x = tt
holds-map Q R h (two (Joined j) f g) x = (holds-map Q R h f x.0, holds-map Q R h g x.1)
holds-map Q R h (two Until f g) x = tt

pub free-holds : (choose : Formula → Option ℕ) (Q : ℕ → Type 0) (f : Formula) → Free choose f → HoldsIn Q f
free-holds choose Q (leaf (Const v)) x = tt
free-holds choose Q (leaf (Prop i)) x = tt
free-holds choose Q (one Not f) x = free-holds choose Q f x
free-holds choose Q (one Next f) x = tt
free-holds choose Q (one (Ever j) f) x = tt
free-holds choose Q (two (Joined j) f g) x = (free-holds choose Q f x.0, free-holds choose Q g x.1)
free-holds choose Q (two Until f g) x = tt
free-holds choose Q (leaf (Hold _)) x = elim x [ ]

pub unfolded-holds : (choose : Formula → Option ℕ) (Q : ℕ → Type 0) (f : Formula) → Clean choose f → HoldsIn Q f → HoldsIn Q (unfolded f)
unfolded-holds choose Q (leaf a) c x = x
unfolded-holds choose Q (one Not f) c x = unfolded-holds choose Q f c x
unfolded-holds choose Q (one Next f) c x = tt
unfolded-holds choose Q (one (Ever j) f) c x = (free-holds choose Q (unfolded f) (unfolded-free choose f c), tt)
unfolded-holds choose Q (two (Joined j) f g) c x = (unfolded-holds choose Q f c.0 x.0, unfolded-holds choose Q g c.1 x.1)
unfolded-holds choose Q (two Until f g) c x = (free-holds choose Q (unfolded g) (unfolded-free choose g c.1), (free-holds choose Q (unfolded f) (unfolded-free choose f c.0), tt))

-- what a test of the slots that are held says of each
pub only-holds : (test : ℕ → Bool) (f : Formula) → holds_only test f ≡ true → HoldsIn (λ m. test m ≡ true) f
unfolding holds_only
only-holds test (leaf (Const v)) e = tt
only-holds test (leaf (Prop i)) e = tt
only-holds test (leaf (Hold m)) e = e
only-holds test (one Not f) e = only-holds test f e
only-holds test (one Next f) e = tt
only-holds test (one (Ever j) f) e = tt
only-holds test (two (Joined j) f g) e =
    (only-holds test f (both-0 (holds_only test f) (holds_only test g) e), only-holds test g (both-1 (holds_only test f) (holds_only test g) e))
only-holds test (two Until f g) e = tt
