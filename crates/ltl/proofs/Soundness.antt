-- Progression is sound. `progress-keeps`: a trace meets a formula now exactly where it meets the progressed formula at the next
-- tick. From it `true-is-kept` and `false-is-kept`, for any number of events and with no size limit: where progressing over
-- some events gives true, every endless continuation of them meets the rule, and where it gives false, none does.
-- The rules for and, or and not are each an equivalence (`joined_keeps`, `negated-keeps`); the member rule because a member
-- follows from an and and implies an or. Assumes nothing.
use mathlib.Core.Path.{◌≡◌, refl, sym, subst}
use mathlib.Core.Bool.{Bool, true, false}
use mathlib.Core.List.{List, [], ◌∷◌}
use mathlib.Core.Logic.Iff
use mathlib.Core.Logic.{◌⊎◌, inl, inr, ⊎_elim, ◌↔◌}
use Prim.Native.Nat.{ℕ, zero, suc, ◌<◌, ◌≤◌}
use native.Mathlib.Nat.{eq-or-lt_of_le}
use native.Mathlib.Omega.{arith}
use Rattle.lists.specs.Tests.{bit}
use Rattle.kinds.specs.declared.Leaf.TheVariants.{Const, Prop, Hold}
use Rattle.kinds.specs.declared.Unary.TheVariants.{Not, Next, Ever}
use Rattle.kinds.specs.declared.Join.{Join}
use Rattle.kinds.specs.declared.Join.TheVariants.{And, Or}
use Rattle.kinds.specs.declared.Binary.TheVariants.{Joined, Until}
use Rattle.ltl.specs.Formula.{Formula, leaf, one, two, constant, join}
use Rattle.ltl.specs.Meaning.{Event, Trace, Meets, Satisfies, continued}
use Rattle.ltl.specs.Progression.{negated, joined, progressed, progressed_over}
use Rattle.lists.proofs.Tests.{no_true}
use Rattle.ltl.proofs.Joining.{joined-elim, negated-elim, Member, whole, on_left, on_right, member_is}

-- ---- a trace, at any tick
module _ (w : Trace) where
  abbrev Same : ℕ → Formula → Formula → Type 0
  Same i f g = Meets w i f ↔ Meets w i g

  -- equal formulas
  keep : {f g : Formula} (i : ℕ) → f ≡ g → Meets w i g → Meets w i f
  keep i e = subst (λ (x : Formula). Meets w i x) (sym e)

  -- a member follows from an and
  and-member : {l r : Formula} (i : ℕ) → Member And l r → Meets w i r → Meets w i l
  and-member i (whole e) = keep i e
  and-member i (on_left e) = λ h. keep i e h.0
  and-member i (on_right m) = λ h. and-member i m h.1

  -- a member implies an or
  or-member : {l r : Formula} (i : ℕ) → Member Or l r → Meets w i l → Meets w i r
  or-member i (whole e) = keep i (sym e)
  or-member i (on_left e) = λ h. inl (keep i (sym e) h)
  or-member i (on_right m) = λ h. inr (or-member i m h)

  joined_keeps : (i : ℕ) (j : Join) (l r : Formula) → Same i (joined j l r) (join j l r)
  joined_keeps i And l r =
      joined-elim (λ x. Same i x (join And l r)) And l r
      (λ e. (λ h. absurd h, λ h. keep i (sym e) h.0))
      (λ e. (λ h. absurd h, λ h. keep i (sym e) h.1))
      (λ e. (λ h. (keep i e tt, h), λ h. h.1))
      (λ e. (λ h. (h, keep i e tt), λ h. h.0))
      (λ m. (λ h. (and-member i (member_is And l r m) h, h), λ h. h.1))
      Iff.rfl
  joined_keeps i Or l r =
      joined-elim (λ x. Same i x (join Or l r)) Or l r
      (λ e. (λ h. inl (keep i e h), λ h. tt))
      (λ e. (λ h. inr (keep i e h), λ h. tt))
      (λ e. (λ h. inr h, λ h. ⊎_elim (λ x. absurd (keep i (sym e) x)) (λ x. x) h))
      (λ e. (λ h. inl h, λ h. ⊎_elim (λ x. x) (λ x. absurd (keep i (sym e) x)) h))
      (λ m. (λ h. inr h, λ h. ⊎_elim (or-member i (member_is Or l r m)) (λ x. x) h))
      Iff.rfl

  negated-keeps : (i : ℕ) (f : Formula) → Same i (negated f) (one Not f)
  negated-keeps i f =
      negated-elim (λ x. Same i x (one Not f)) f
      (λ e. (λ h. absurd h, λ h. h (keep i e tt)))
      (λ e. (λ h x. keep i (sym e) x, λ h. tt))
      Iff.rfl

  -- ---- one tick
  -- a proposition's value is that of its bit
  bit-keeps : (i : ℕ) (b : Bool) → Meets w i (constant b) ↔ (b ≡ true)
  bit-keeps i true = (λ h. refl, λ h. tt)
  bit-keeps i false = (λ h. absurd h, λ h. absurd (no_true h))

  -- what a connective keeps of its operands
  join-same : (i : ℕ) (j : Join) (f g f' g' : Formula) → (Meets w (suc i) f' ↔ Meets w i f) → (Meets w (suc i) g' ↔ Meets w i g)
      → Meets w (suc i) (join j f' g') ↔ Meets w i (join j f g)
  join-same i And f g f' g' p q = (λ h. (p.0 h.0, q.0 h.1), λ h. (p.1 h.0, q.1 h.1))
  join-same i Or f g f' g' p q = (⊎_elim (λ h. inl (p.0 h)) (λ h. inr (q.0 h)), ⊎_elim (λ h. inl (p.1 h)) (λ h. inr (q.1 h)))

  join_step : (i : ℕ) (j : Join) (f g f' g' : Formula) → (Meets w (suc i) f' ↔ Meets w i f) → (Meets w (suc i) g' ↔ Meets w i g)
      → Meets w (suc i) (joined j f' g') ↔ Meets w i (join j f g)
  join_step i j f g f' g' p q = Iff.trans (joined_keeps (suc i) j f' g') (join-same i j f g f' g' p q)

  -- the three unfoldings mean what they unfold: now, or joined with the same at the next tick
  ever-now : (i : ℕ) (j : Join) (f : Formula) → Meets w i (join j f (one Next (one (Ever j) f))) ↔ Meets w i (one (Ever j) f)
  ever-now i Or f = (
    ⊎_elim (λ h. (i, omega arith, h)) (λ h. (h.0, (let l = h.1 in omega arith), h.2)),
    λ h. ⊎_elim (λ e. inl (subst (λ (k : ℕ). Meets w k f) (sym e) h.2)) (λ l. inr (h.0, l, h.2)) (eq-or-lt_of_le h.1),
  )
  ever-now i And f = (
    λ h k l. ⊎_elim (λ e. subst (λ (k : ℕ). Meets w k f) e h.0) (λ q. h.1 k q) (eq-or-lt_of_le l),
    λ h. (h i (omega arith), λ k l. h k (omega arith)),
  )

  until-now : (i : ℕ) (f g : Formula) → (Meets w i g ⊎ (Meets w i f × Meets w (suc i) (two Until f g))) ↔ Meets w i (two Until f g)
  until-now i f g = (⊎_elim now later, back)
    where
      now : Meets w i g → Meets w i (two Until f g)
      now h = (i, omega arith, h, λ l a b. absurd (omega arith))

      later : Meets w i f × Meets w (suc i) (two Until f g) → Meets w i (two Until f g)
      later h =
          let u = h.1 in
          let b = u.1 in
          (u.0, omega arith, u.2, λ l p q. ⊎_elim (λ e. subst (λ (k : ℕ). Meets w k f) e h.0) (λ r. u.3 l r q) (eq-or-lt_of_le p))

      back : Meets w i (two Until f g) → Meets w i g ⊎ (Meets w i f × Meets w (suc i) (two Until f g))
      back h =
          ⊎_elim (λ e. inl (subst (λ (k : ℕ). Meets w k g) (sym e) h.2))
          (λ r. inr (h.3 i (omega arith) r, (h.0, r, h.2, λ l p q. h.3 l (omega arith) q)))
          (eq-or-lt_of_le h.1)

  pub progress-keeps : (f : Formula) (i : ℕ) → Meets w (suc i) (progressed (w i) f) ↔ Meets w i f
  progress-keeps (leaf (Const true)) i = Iff.rfl
  progress-keeps (leaf (Const false)) i = Iff.rfl
  progress-keeps (leaf (Prop p)) i = bit-keeps (suc i) (bit (w i) p)
  progress-keeps (leaf (Hold k)) i = Iff.rfl
  progress-keeps (one Not f) i =
      Iff.trans (negated-keeps (suc i) (progressed (w i) f)) (λ h x. h ((progress-keeps f i).1 x), λ h x. h ((progress-keeps f i).0 x))
  progress-keeps (one Next f) i = Iff.rfl
  progress-keeps (one (Ever j) f) i =
      let u = one (Ever j) f in
      Iff.trans (join_step i j f (one Next u) (progressed (w i) f) u (progress-keeps f i) Iff.rfl) (ever-now i j f)
  progress-keeps (two (Joined j) f g) i = join_step i j f g (progressed (w i) f) (progressed (w i) g) (progress-keeps f i) (progress-keeps g i)
  progress-keeps (two Until f g) i =
      let u = two Until f g in
      let both = join_step i And f (one Next u) (progressed (w i) f) u (progress-keeps f i) Iff.rfl in
      Iff.trans (join_step i Or g (join And f (one Next u)) (progressed (w i) g) (joined And (progressed (w i) f) u) (progress-keeps g i) both) (until-now i f g)

-- ---- any number of events
-- two traces, the second one tick behind the first
module _ (v w : Trace) (behind : (i : ℕ) → v (suc i) ≡ w i) where
  -- the ticks from the first trace's next one on are the second's from its present one on
  from_next : (P : ℕ → Type 0) (i : ℕ) → ((k : ℕ) → i ≤ k → P (suc k)) → (k : ℕ) → suc i ≤ k → P k
  from_next P i h zero l = absurd (omega arith)
  from_next P i h (suc k) l = h k (omega arith)

  shifted : (f : Formula) (i : ℕ) → Meets v (suc i) f ↔ Meets w i f
  shifted (leaf (Const true)) i = Iff.rfl
  shifted (leaf (Const false)) i = Iff.rfl
  shifted (leaf (Prop p)) i = (λ h. rw (← behind i) h, λ h. rw (behind i) h)
  shifted (leaf (Hold k)) i = Iff.rfl
  shifted (one Not f) i = (λ h x. h ((shifted f i).1 x), λ h x. h ((shifted f i).0 x))
  shifted (one Next f) i = shifted f (suc i)
  shifted (one (Ever Or) f) i = (
    λ h. from_next (λ k. Meets v k f → Meets w i (one (Ever Or) f)) i (λ k l x. (k, l, (shifted f k).0 x)) h.0 h.1 h.2,
    λ h. (let l = h.1 in (suc h.0, omega arith, (shifted f h.0).1 h.2)),
  )
  shifted (one (Ever And) f) i =
      (λ h k l. (shifted f k).0 (h (suc k) (omega arith)), λ h. from_next (λ k. Meets v k f) i (λ k l. (shifted f k).1 (h k l)))
  shifted (two (Joined And) f g) i = (λ h. ((shifted f i).0 h.0, (shifted g i).0 h.1), λ h. ((shifted f i).1 h.0, (shifted g i).1 h.1))
  shifted (two (Joined Or) f g) i =
      (⊎_elim (λ h. inl ((shifted f i).0 h)) (λ h. inr ((shifted g i).0 h)), ⊎_elim (λ h. inl ((shifted f i).1 h)) (λ h. inr ((shifted g i).1 h)))
  shifted (two Until f g) i = (
    λ h. from_next (λ k. Meets v k g → ((l : ℕ) → suc i ≤ l → l < k → Meets v l f) → Meets w i (two Until f g)) i
        (λ k l x y. (k, l, (shifted g k).0 x, λ m p q. (shifted f m).0 (y (suc m) (omega arith) (omega arith)))) h.0 h.1 h.2 h.3,
    λ h. (let l = h.1 in (
      suc h.0,
      omega arith,
      (shifted g h.0).1 h.2,
      λ m p. from_next (λ k. k < suc h.0 → Meets v k f) i (λ k a b. (shifted f k).1 (h.3 k a (omega arith))) m p,
    )),
  )

-- the events and then the trace meet the rule exactly where the trace meets what progressing over the events leaves
pub progress-over : (us : List Event) (w : Trace) (f : Formula) → Satisfies w (progressed_over us f) ↔ Satisfies (continued us w) f
progress-over [] w f = shifted_none
  where
    shifted_none : Satisfies w f ↔ Satisfies (continued [] w) f
    shifted_none = Iff.rfl
progress-over (e ∷ us) w f =
    Iff.trans (progress-over us w (progressed e f))
    (Iff.trans (Iff.symm (shifted (continued (e ∷ us) w) (continued us w) (λ i. refl) (progressed e f) 0))
    (progress-keeps (continued (e ∷ us) w) f 0))

-- true: every endless continuation of the events meets the rule
pub true-is-kept : (us : List Event) (f : Formula) → progressed_over us f ≡ constant true → (w : Trace) → Satisfies (continued us w) f
true-is-kept us f e w = (progress-over us w f).0 (subst (λ (x : Formula). Satisfies w x) (sym e) tt)

-- false: none does
pub false-is-kept : (us : List Event) (f : Formula) → progressed_over us f ≡ constant false → (w : Trace) → Satisfies (continued us w) f → ⊥
false-is-kept us f e w h = subst (λ (x : Formula). Satisfies w x) e ((progress-over us w f).1 h)
