-- How long a part is in its slot: `here-size`, where every place holder is one node; by `looked-as`, which is for whatever is said of
-- a part that is looked at. Assumes nothing.
use mathlib.Core.Path.{◌≡◌, refl, ap, ap₂}
use mathlib.Core.Bool.{Bool, true, false}
use mathlib.Core.Option.{Option, none, some}
use Prim.Native.Nat.{ℕ, ◌+◌}
use lib.ListN.{length}
use lib.Dec.{eqb}
use Rattle.lists.specs.Tests.{pick}
use Rattle.kinds.specs.declared.Leaf.TheVariants.{Const, Prop, Hold}
use Rattle.kinds.specs.declared.Unary.TheVariants.{Not, Next, Ever}
use Rattle.kinds.specs.declared.Binary.TheVariants.{Joined, Until}
use Rattle.ltl.specs.Formula.{Formula, leaf, one, two, size}
use Rattle.network.specs.Layout.{Laid, cut, looked, laid}
use Rattle.cutting.specs.Cuts.{looked_as}
use Rattle.tagging.specs.Tags.{here_on}

-- what holds of a part that is looked at, where it stays and where it is cut
pub looked-as : (R : Laid → ℕ → Type 0) (o : Option ℕ) (b k : ℕ) (lay : ℕ → ℕ → Laid) (stays cuts : ℕ → ℕ) → R (lay b k) (stays b) → ((c : ℕ) → R (cut c k (lay c (k + 1))) (cuts c))
    → R (looked o b k lay) (looked_as o b stays cuts)
unfolding looked looked_as pick
looked-as R none b k lay stays cuts x y = x
looked-as R (some c) b k lay stays cuts x y = go (eqb c b)
  where
    go : (t : Bool) → R (pick t (lay b k) (cut c k (lay c (k + 1)))) (pick t (stays b) (cuts c))
    go true = x
    go false = y c

module _ (choose : Formula → Option ℕ) (hold : ℕ → ℕ → Laid) (single : (m k : ℕ) → size (hold m k).here ≡ 1) where
  looked-size : (f : Formula) (b k : ℕ) → ((c n : ℕ) → size (laid choose hold f c n).here ≡ here_on choose f c)
      → size (looked (choose f) b k (laid choose hold f)).here ≡ looked_as (choose f) b (here_on choose f) (λ c. 1)
  looked-size f b k h = looked-as (λ x n. size x.here ≡ n) (choose f) b k (laid choose hold f) (here_on choose f) (λ c. 1) (h b k) (λ c. refl)

  pub here-size : (f : Formula) (b k : ℕ) → size (laid choose hold f b k).here ≡ here_on choose f b
  unfolding laid here_on
  here-size (leaf (Const v)) b k = refl
  here-size (leaf (Prop i)) b k = refl
  here-size (leaf (Hold m)) b k = single m k
  here-size (one Not f) b k = ap (1 +◌) (looked-size f b k (here-size f))
  here-size (one Next f) b k = refl
  here-size (one (Ever j) f) b k = refl
  here-size (two (Joined j) f g) b k =
      ap₂ (λ (x y : ℕ). 1 + x + y)
      (looked-size f b k (here-size f))
      (looked-size g b (k + length (looked (choose f) b k (laid choose hold f)).slots) (here-size g))
  here-size (two Until f g) b k = refl
