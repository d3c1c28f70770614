-- What a step leaves of a slot's formula, whatever is sampled and held: the numbers stay in their bounds (`step-within`), place holders
-- stay outside next and the temporal operators (`step-tidy`), none stands there that did not before, or that is a constant
-- (`step-holds`), and none more often (`step-times`). Assumes nothing.
use mathlib.Core.Path.{◌≡◌, refl}
use mathlib.Core.Bool.{true, false}
use Prim.Native.Nat.{ℕ, ◌+◌, ◌≤◌}
use native.Mathlib.Omega.{arith}
use Rattle.lists.proofs.Tests.{no_true, both-0, both-1, both_true}
use Rattle.kinds.specs.declared.Leaf.TheVariants.{Const, Prop, Hold}
use Rattle.kinds.specs.declared.Unary.TheVariants.{Not, Next, Ever}
use Rattle.kinds.specs.declared.Binary.TheVariants.{Joined, Until}
use Rattle.answers.specs.declared.Verdict.{Verdict}
use Rattle.answers.specs.declared.Verdict.TheVariants.{False, True, Pending}
use Rattle.ltl.specs.Formula.{Formula, leaf, one, two, Within}
use Rattle.ltl.specs.Meaning.{Event}
use Rattle.ltl.specs.Progression.{resolved, filled_by, filled}
use Rattle.ltl.proofs.Joining.{joined-elim, negated-elim}
use Rattle.network.specs.Tick.{holds_only}
use Rattle.network.proofs.Laying.{HoldsIn}
use Rattle.network.proofs.Holding.{holds-map, only-holds}
use Rattle.network.proofs.Numbers.{times_in}
use Rattle.state.specs.Clauses.{tidy}

-- ---- a formula without place holders, as it comes out from under next
none-tidy : (f : Formula) → holds_only (λ m. false) f ≡ true → tidy f ≡ true
unfolding holds_only tidy
none-tidy (leaf a) e = refl
none-tidy (one Not f) e = none-tidy f e
none-tidy (one Next f) e = e
none-tidy (one (Ever j) f) e = e
none-tidy (two (Joined j) f g) e = both_true _ _ (none-tidy f (both-0 _ _ e)) (none-tidy g (both-1 _ _ e))
none-tidy (two Until f g) e = e

none-holds : (Q : ℕ → Type 0) (f : Formula) → holds_only (λ m. false) f ≡ true → HoldsIn Q f
none-holds Q f e = holds-map (λ m. false ≡ true) Q (λ m q. absurd (no_true q)) f (only-holds (λ m. false) f e)

module _ (e : Event) (held : ℕ → Verdict) where
  -- what the slot becomes
  abbrev after : Formula → Formula
  after f = resolved e (filled held f)

  pub step-within : (p end : ℕ) (f : Formula) → Within p end f → Within p end (after f)
  step-within p end (leaf (Const v)) w = tt
  step-within p end (leaf (Prop i)) w = tt
  step-within p end (leaf (Hold k)) w = go (held k)
    where
      go : (v : Verdict) → Within p end (resolved e (leaf (filled_by v k)))
      go True = tt
      go False = tt
      go Pending = w
  step-within p end (one Not f) w = negated-elim (λ g. Within p end g) (after f) (λ q. tt) (λ q. tt) (step-within p end f w)
  step-within p end (one Next f) w = w
  step-within p end (one (Ever j) f) w = w
  step-within p end (two (Joined j) f g) w =
      let l = step-within p end f w.0 in
      let r = step-within p end g w.1 in
      joined-elim (λ h. Within p end h) j (after f) (after g) (λ q. tt) (λ q. tt) (λ q. r) (λ q. l) (λ q. r) (l, r)
  step-within p end (two Until f g) w = w

  pub step-tidy : (f : Formula) → tidy f ≡ true → tidy (after f) ≡ true
  unfolding tidy
  step-tidy (leaf (Const v)) t = refl
  step-tidy (leaf (Prop i)) t = refl
  step-tidy (leaf (Hold k)) t = go (held k)
    where
      go : (v : Verdict) → tidy (resolved e (leaf (filled_by v k))) ≡ true
      go True = refl
      go False = refl
      go Pending = refl
  step-tidy (one Not f) t = negated-elim (λ g. tidy g ≡ true) (after f) (λ q. refl) (λ q. refl) (step-tidy f t)
  step-tidy (one Next f) t = none-tidy f t
  step-tidy (one (Ever j) f) t = t
  step-tidy (two (Joined j) f g) t =
      let l = step-tidy f (both-0 _ _ t) in
      let r = step-tidy g (both-1 _ _ t) in
      joined-elim (λ h. tidy h ≡ true) j (after f) (after g) (λ q. refl) (λ q. refl) (λ q. r) (λ q. l) (λ q. r) (both_true _ _ l r)
  step-tidy (two Until f g) t = t

  pub step-holds : (Q : ℕ → Type 0) (f : Formula) → tidy f ≡ true → HoldsIn Q f → HoldsIn (λ m. Q m × (held m ≡ Pending)) (after f)
  unfolding tidy
  step-holds Q (leaf (Const v)) t x = tt
  step-holds Q (leaf (Prop i)) t x = tt
  step-holds Q (leaf (Hold k)) t x = go (held k) refl
    where
      go : (v : Verdict) → held k ≡ v → HoldsIn (λ m. Q m × (held m ≡ Pending)) (resolved e (leaf (filled_by v k)))
      go True q = tt
      go False q = tt
      go Pending q = (x, q)
  step-holds Q (one Not f) t x =
      negated-elim (λ g. HoldsIn (λ m. Q m × (held m ≡ Pending)) g) (after f) (λ q. tt) (λ q. tt) (step-holds Q f t x)
  step-holds Q (one Next f) t x = none-holds (λ m. Q m × (held m ≡ Pending)) f t
  step-holds Q (one (Ever j) f) t x = tt
  step-holds Q (two (Joined j) f g) t x =
      let l = step-holds Q f (both-0 _ _ t) x.0 in
      let r = step-holds Q g (both-1 _ _ t) x.1 in
      joined-elim (λ h. HoldsIn (λ m. Q m × (held m ≡ Pending)) h) j (after f) (after g) (λ q. tt) (λ q. tt) (λ q. r) (λ q. l) (λ q. r) (l, r)
  step-holds Q (two Until f g) t x = tt

  pub step-times : (m : ℕ) (f : Formula) → times_in m (after f) ≤ times_in m f
  step-times m (leaf (Const v)) = omega arith
  step-times m (leaf (Prop i)) = omega arith
  step-times m (leaf (Hold k)) = go (held k)
    where
      go : (v : Verdict) → times_in m (resolved e (leaf (filled_by v k))) ≤ times_in m (leaf (Hold k))
      go True = omega arith
      go False = omega arith
      go Pending = omega arith
  step-times m (one Not f) =
      let h = step-times m f in
      negated-elim (λ g. times_in m g ≤ times_in m f) (after f) (λ q. omega arith) (λ q. omega arith) h
  step-times m (one Next f) = omega arith
  step-times m (one (Ever j) f) = omega arith
  step-times m (two (Joined j) f g) =
      let h = step-times m f in
      let i = step-times m g in
      joined-elim (λ x. times_in m x ≤ times_in m f + times_in m g) j (after f) (after g) (λ q. omega arith) (λ q. omega arith)
      (λ q. omega arith) (λ q. omega arith) (λ q. omega arith) (omega arith)
  step-times m (two Until f g) = omega arith
