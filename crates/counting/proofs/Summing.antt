-- What a formula holds, added up: a clean one holds as much as it does unfolded (`unfolded-held`), and capped entries give what whole
-- ones do (`held-capped`). Assumes nothing.
use mathlib.Core.Path.{◌≡◌, refl}
use mathlib.Core.Option.{Option}
use Prim.Native.Nat.{ℕ, ◌+◌}
use native.Mathlib.Omega.{arith}
use Rattle.kinds.specs.declared.Leaf.TheVariants.{Const, Prop, Hold}
use Rattle.kinds.specs.declared.Unary.TheVariants.{Not, Next, Ever}
use Rattle.kinds.specs.declared.Binary.TheVariants.{Joined, Until}
use Rattle.ltl.specs.Formula.{Formula, leaf, one, two}
use Rattle.ltl.specs.Progression.{unfolded}
use Rattle.network.proofs.Owned.{Free, Clean, unfolded-free}
use Rattle.network.proofs.Laying.{HoldsIn}
use Rattle.laying.proofs.Counting.{held}
use Rattle.counting.specs.Totals.{capped}

-- ---- unfolded
module _ (choose : Formula → Option ℕ) (entry : ℕ → ℕ) where
  free-none : (f : Formula) → Free choose f → held entry f ≡ 0
  free-none (leaf (Const v)) x = refl
  free-none (leaf (Prop i)) x = refl
  free-none (leaf (Hold m)) x = absurd x
  free-none (one Not f) x = free-none f x
  free-none (one Next f) x = refl
  free-none (one (Ever j) f) x = refl
  free-none (two (Joined j) f g) x = omega (arith, free-none f x.0, free-none g x.1)
  free-none (two Until f g) x = refl

  -- the operators that are unfolded hold nothing, before and after
  pub unfolded-held : (f : Formula) → Clean choose f → held entry (unfolded f) ≡ held entry f
  unfolded-held (leaf a) x = refl
  unfolded-held (one Not f) x = unfolded-held f x
  unfolded-held (one Next f) x = refl
  unfolded-held (one (Ever j) f) x = free-none (unfolded (one (Ever j) f)) (unfolded-free choose (one (Ever j) f) x)
  unfolded-held (two (Joined j) f g) x = omega (arith, unfolded-held f x.0, unfolded-held g x.1)
  unfolded-held (two Until f g) x = free-none (unfolded (two Until f g)) (unfolded-free choose (two Until f g) x)

-- ---- capped entries
capped-sum : (most a b c d : ℕ) → capped most a ≡ capped most c → capped most b ≡ capped most d → capped most (a + b) ≡ capped most (c + d)
capped-sum most a b c d e h = omega arith

pub held-capped : (most : ℕ) (entry count : ℕ → ℕ) (f : Formula) → HoldsIn (λ m. entry m ≡ capped most (count m)) f → capped most (held entry f) ≡ capped most (held count f)
held-capped most entry count (leaf (Const v)) h = refl
held-capped most entry count (leaf (Prop i)) h = refl
held-capped most entry count (leaf (Hold m)) h = omega arith
held-capped most entry count (one Not f) h = held-capped most entry count f h
held-capped most entry count (one Next f) h = refl
held-capped most entry count (one (Ever j) f) h = refl
held-capped most entry count (two (Joined j) f g) h =
    capped-sum most (held entry f) (held entry g) (held count f) (held count g) (held-capped most entry count f h.0) (held-capped most entry count g h.1)
held-capped most entry count (two Until f g) h = refl
