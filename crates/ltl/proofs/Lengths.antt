-- What resolving makes of a formula is never longer than the formula (`resolved-no-longer`), whatever is held. What unfolding makes of it
-- is never shorter (`unfolded-long`), and the formula itself where it is as long (`unfolded-same`). Assumes nothing.
use mathlib.Core.Path.{◌≡◌, refl, ap, ap₂}
use Prim.Native.Nat.{ℕ, ◌+◌, ◌≤◌}
use native.Mathlib.Omega.{arith}
use Rattle.kinds.specs.declared.Leaf.TheVariants.{Const, Prop, Hold}
use Rattle.kinds.specs.declared.Unary.TheVariants.{Not, Next, Ever}
use Rattle.kinds.specs.declared.Binary.TheVariants.{Joined, Until}
use Rattle.answers.specs.declared.Verdict.{Verdict}
use Rattle.ltl.specs.Formula.{Formula, leaf, one, two, join, size}
use Rattle.ltl.specs.Meaning.{Event}
use Rattle.ltl.specs.Progression.{unfolded, resolved, filled}
use Rattle.ltl.proofs.Joining.{joined-elim, negated-elim}

resolved-size : (e : Event) (f : Formula) → size (resolved e f) ≤ size f
resolved-size e (leaf (Const v)) = omega arith
resolved-size e (leaf (Prop i)) = omega arith
resolved-size e (leaf (Hold k)) = omega arith
resolved-size e (one Not f) =
    let h = resolved-size e f in
    negated-elim (λ g. size g ≤ 1 + size f) (resolved e f) (λ q. omega arith) (λ q. omega arith) (omega arith)
resolved-size e (one Next f) = omega arith
resolved-size e (one (Ever j) f) = omega arith
resolved-size e (two (Joined j) f g) =
    let h = resolved-size e f in
    let i = resolved-size e g in
    joined-elim (λ x. size x ≤ 1 + size f + size g) j (resolved e f) (resolved e g) (λ q. omega arith) (λ q. omega arith) (λ q. omega arith) (λ q. omega arith) (λ q. omega arith) (omega arith)
resolved-size e (two Until f g) = omega arith

filled-size : (held : ℕ → Verdict) (f : Formula) → size (filled held f) ≡ size f
filled-size held (leaf a) = refl
filled-size held (one Not f) = ap (1 +◌) (filled-size held f)
filled-size held (one Next f) = refl
filled-size held (one (Ever j) f) = refl
filled-size held (two (Joined j) f g) = omega (arith, filled-size held f, filled-size held g)
filled-size held (two Until f g) = refl

pub resolved-no-longer : (e : Event) (held : ℕ → Verdict) (f : Formula) → size (resolved e (filled held f)) ≤ size f
resolved-no-longer e held f = omega (arith, resolved-size e (filled held f), filled-size held f)

-- ---- unfolding makes a formula longer, or leaves it as it is
pub unfolded-long : (f : Formula) → size f ≤ size (unfolded f)
unfolded-long (leaf a) = omega arith
unfolded-long (one Not f) = let h = unfolded-long f in omega arith
unfolded-long (one Next f) = omega arith
unfolded-long (one (Ever j) f) = omega arith
unfolded-long (two (Joined j) f g) = let h = unfolded-long f in let i = unfolded-long g in omega arith
unfolded-long (two Until f g) = omega arith

pub unfolded-same : (f : Formula) → size (unfolded f) ≡ size f → unfolded f ≡ f
unfolded-same (leaf a) e = refl
unfolded-same (one Not f) e = ap (one Not) (unfolded-same f (omega arith))
unfolded-same (one Next f) e = refl
unfolded-same (one (Ever j) f) e = absurd (let h = unfolded-long f in omega arith)
unfolded-same (two (Joined j) f g) e = let h = unfolded-long f in let i = unfolded-long g in ap₂ (join j) (unfolded-same f (omega arith)) (unfolded-same g (omega arith))
unfolded-same (two Until f g) e = absurd (let h = unfolded-long f in let i = unfolded-long g in omega arith)
