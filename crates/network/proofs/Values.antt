-- The value of a formula over some events: the verdict that progressing it over them gives, computed operand by operand. A place
-- holder's value is given by an environment. `value-progressed`: progressing over one event takes that event off. Assumes nothing.
use mathlib.Core.Path.{◌≡◌, refl, sym, ap, ap₂, ◌∙◌}
use mathlib.Core.Bool.{Bool, true, false, not}
use mathlib.Core.List.{List, [], ◌∷◌}
use mathlib.Core.Option.{Option}
use Prim.Native.Nat.{ℕ}
use Rattle.lists.specs.Tests.{pick, bit}
use Rattle.kinds.specs.declared.Leaf.TheVariants.{Const, Prop, Hold}
use Rattle.kinds.specs.declared.Unary.TheVariants.{Not, Next, Ever}
use Rattle.kinds.specs.declared.Join.{Join}
use Rattle.kinds.specs.declared.Join.TheVariants.{And, Or}
use Rattle.kinds.specs.declared.Binary.TheVariants.{Joined, Until}
use Rattle.answers.specs.declared.Verdict.{Verdict}
use Rattle.answers.specs.declared.Verdict.TheVariants.{Pending}
use Rattle.ltl.specs.Formula.{Formula, leaf, one, two, constant, join}
use Rattle.ltl.specs.Meaning.{Event}
use Rattle.ltl.specs.Progression.{unfolded, is_constant, negated, deciding, joined, progressed, progressed_over, verdict_of}
use Rattle.ltl.proofs.Joining.{constant-is, two_ways, pending, joined-cases, Member, whole, on_left, on_right, member_is}
use Rattle.network.proofs.Owned.{Free}
use Rattle.ltl.proofs.Verdicts.{known, opposite, together, together-left, together-right, together-skip, together-keep, together-same, together-again, together-swap}

-- the value of each slot over some events
abbrev pub Env : Type 0
Env = List Event → ℕ → Verdict

-- one tick: the present event, the value of the slots now, and the value of formulas from the next tick on
abbrev pub now : (ℕ → Verdict) → (Formula → Verdict) → Event → Formula → Verdict
now slots later e (leaf (Const v)) = known v
now slots later e (leaf (Prop i)) = known (bit e i)
now slots later e (leaf (Hold k)) = slots k
now slots later e (one Not f) = opposite (now slots later e f)
now slots later e (one Next f) = later f
now slots later e (one (Ever j) f) = together j (now slots later e f) (later (one (Ever j) f))
now slots later e (two (Joined j) f g) = together j (now slots later e f) (now slots later e g)
now slots later e (two Until f g) = together Or (now slots later e g) (together And (now slots later e f) (later (two Until f g)))

abbrev pub value : Env → List Event → Formula → Verdict
value E [] f = verdict_of f
value E (e ∷ u) f = now (E (e ∷ u)) (λ g. value E u g) e f

-- ---- constants
pub value-constant : (E : Env) (u : List Event) (v : Bool) → value E u (constant v) ≡ known v
value-constant E [] true = refl
value-constant E [] false = refl
value-constant E (e ∷ u) v = refl

-- ---- the connectives, for all events
module _ (E : Env) (e : Event) (u : List Event) where
  -- a member says nothing new
  value-member : (j : Join) {l r : Formula} → Member j l r → together j (value E (e ∷ u) l) (value E (e ∷ u) r) ≡ value E (e ∷ u) r
  value-member j {l} {r} (whole q) = ap (λ (x : Formula). together j (value E (e ∷ u) x) (value E (e ∷ u) r)) q ∙ together-same j (value E (e ∷ u) r)
  value-member j {l} (on_left {f = f} {g = g} q) =
      ap (λ (x : Formula). together j (value E (e ∷ u) x) (value E (e ∷ u) (join j f g))) q ∙ together-again j (value E (e ∷ u) f) (value E (e ∷ u) g)
  value-member j {l} (on_right {f = f} {g = g} m) =
      together-swap j (value E (e ∷ u) l) (value E (e ∷ u) f) (value E (e ∷ u) g) ∙ ap (together j (value E (e ∷ u) f)) (value-member j m)

pub value-joined : (E : Env) (u : List Event) (j : Join) (l r : Formula) → value E u (joined j l r) ≡ together j (value E u l) (value E u r)
value-joined E [] j l r =
    joined-cases (λ x. verdict_of x ≡ together j (verdict_of l) (verdict_of r)) j l r
    (λ q. value-constant E [] (deciding j) ∙ sym (ap (λ (x : Formula). together j (verdict_of x) (verdict_of r)) q ∙ ap (λ (v : Verdict). together j v (verdict_of r)) (value-constant E [] (deciding j)) ∙ together-left j (verdict_of r)))
    (λ q. value-constant E [] (deciding j) ∙ sym (ap (λ (x : Formula). together j (verdict_of l) (verdict_of x)) q ∙ ap (together j (verdict_of l)) (value-constant E [] (deciding j)) ∙ together-right j (verdict_of l)))
    (λ q. sym (ap (λ (x : Formula). together j (verdict_of x) (verdict_of r)) q ∙ ap (λ (v : Verdict). together j v (verdict_of r)) (value-constant E [] (not (deciding j))) ∙ together-skip j (verdict_of r)))
    (λ q. sym (ap (λ (x : Formula). together j (verdict_of l) (verdict_of x)) q ∙ ap (together j (verdict_of l)) (value-constant E [] (not (deciding j))) ∙ together-keep j (verdict_of l)))
    (λ m p q. q ∙ sym (ap₂ (together j) p q ∙ together-same j Pending))
    (λ p q. sym (ap₂ (together j) p q ∙ together-same j Pending))
value-joined E (e ∷ u) j l r =
    joined-cases (λ x. value E (e ∷ u) x ≡ together j (value E (e ∷ u) l) (value E (e ∷ u) r)) j l r
    (λ q. sym (ap (λ (x : Formula). together j (value E (e ∷ u) x) (value E (e ∷ u) r)) q ∙ together-left j (value E (e ∷ u) r)))
    (λ q. sym (ap (λ (x : Formula). together j (value E (e ∷ u) l) (value E (e ∷ u) x)) q ∙ together-right j (value E (e ∷ u) l)))
    (λ q. sym (ap (λ (x : Formula). together j (value E (e ∷ u) x) (value E (e ∷ u) r)) q ∙ together-skip j (value E (e ∷ u) r)))
    (λ q. sym (ap (λ (x : Formula). together j (value E (e ∷ u) l) (value E (e ∷ u) x)) q ∙ together-keep j (value E (e ∷ u) l)))
    (λ m p q. sym (value-member E e u j (member_is j l r m)))
    (λ p q. refl)

pub value-negated : (E : Env) (u : List Event) (f : Formula) → value E u (negated f) ≡ opposite (value E u f)
unfolding negated pick opposite
value-negated E u f = go (is_constant true f) refl (is_constant false f) refl u
  where
    go : (a : Bool) → is_constant true f ≡ a → (b : Bool) → is_constant false f ≡ b → (u : List Event)
        → value E u (pick a (constant false) (pick b (constant true) (one Not f))) ≡ opposite (value E u f)
    go true p b q u = value-constant E u false ∙ sym (ap (λ (x : Formula). opposite (value E u x)) (constant-is true f p) ∙ ap opposite (value-constant E u true))
    go false p true q u = value-constant E u true ∙ sym (ap (λ (x : Formula). opposite (value E u x)) (constant-is false f q) ∙ ap opposite (value-constant E u false))
    go false p false q [] = sym (ap opposite (pending f (λ v. two_ways true v f p q)))
    go false p false q (e ∷ u) = refl

-- ---- unfolding keeps a value, and resolving takes an event off
pub now-unfolded : (slots : ℕ → Verdict) (later : Formula → Verdict) (e : Event) (f : Formula) → now slots later e (unfolded f) ≡ now slots later e f
now-unfolded slots later e (leaf a) = refl
now-unfolded slots later e (one Not f) = ap opposite (now-unfolded slots later e f)
now-unfolded slots later e (one Next f) = refl
now-unfolded slots later e (one (Ever j) f) = ap (λ (v : Verdict). together j v (later (one (Ever j) f))) (now-unfolded slots later e f)
now-unfolded slots later e (two (Joined j) f g) = ap₂ (together j) (now-unfolded slots later e f) (now-unfolded slots later e g)
now-unfolded slots later e (two Until f g) =
    ap₂ (λ (v w : Verdict). together Or v (together And w (later (two Until f g)))) (now-unfolded slots later e g) (now-unfolded slots later e f)

pub value-unfolded : (E : Env) (u : List Event) (f : Formula) → value E u (unfolded f) ≡ value E u f
value-unfolded E [] (leaf a) = refl
value-unfolded E [] (one Not f) = refl
value-unfolded E [] (one Next f) = refl
value-unfolded E [] (one (Ever j) f) = refl
value-unfolded E [] (two (Joined j) f g) = refl
value-unfolded E [] (two Until f g) = refl
value-unfolded E (e ∷ u) f = now-unfolded (E (e ∷ u)) (λ g. value E u g) e f

-- ---- progression in one place
-- where nothing is held
abbrev pub never : Env
never u k = Pending

held-never : (u : List Event) (k : ℕ) → value never u (leaf (Hold k)) ≡ Pending
held-never [] k = refl
held-never (e ∷ u) k = refl

pub value-progressed : (e : Event) (u : List Event) (f : Formula) → value never u (progressed e f) ≡ value never (e ∷ u) f
value-progressed e u (leaf (Const v)) = value-constant never u v
value-progressed e u (leaf (Prop i)) = value-constant never u (bit e i)
value-progressed e u (leaf (Hold k)) = held-never u k
value-progressed e u (one Not f) = value-negated never u (progressed e f) ∙ ap opposite (value-progressed e u f)
value-progressed e u (one Next f) = refl
value-progressed e u (one (Ever j) f) =
    value-joined never u j (progressed e f) (one (Ever j) f) ∙ ap (λ (v : Verdict). together j v (value never u (one (Ever j) f))) (value-progressed e u f)
value-progressed e u (two (Joined j) f g) = value-joined never u j (progressed e f) (progressed e g) ∙ ap₂ (together j) (value-progressed e u f) (value-progressed e u g)
value-progressed e u (two Until f g) =
    value-joined never u Or (progressed e g) (joined And (progressed e f) (two Until f g))
    ∙ ap₂ (together Or) (value-progressed e u g) (value-joined never u And (progressed e f) (two Until f g) ∙ ap (λ (v : Verdict). together And v (value never u (two Until f g))) (value-progressed e u f))

-- the verdict of one place is the value of the rule over the events
pub value-over : (us : List Event) (f : Formula) → verdict_of (progressed_over us f) ≡ value never us f
value-over [] f = refl
value-over (e ∷ us) f = value-over us (progressed e f) ∙ value-progressed e us f

-- ---- a formula without place holders has one value, whatever the slots
module _ (choose : Formula → Option ℕ) where
  now-free : (s t : ℕ → Verdict) (l m : Formula → Verdict) (e : Event) → ((g : Formula) → Free choose g → l g ≡ m g) → (f : Formula) → Free choose f → now s l e f ≡ now t m e f
  now-free s t l m e h (leaf (Const v)) x = refl
  now-free s t l m e h (leaf (Prop i)) x = refl
  now-free s t l m e h (one Not f) x = ap opposite (now-free s t l m e h f x)
  now-free s t l m e h (one Next f) x = h f x
  now-free s t l m e h (one (Ever j) f) x = ap₂ (together j) (now-free s t l m e h f x) (h (one (Ever j) f) x)
  now-free s t l m e h (two (Joined j) f g) x = ap₂ (together j) (now-free s t l m e h f x.0) (now-free s t l m e h g x.1)
  now-free s t l m e h (two Until f g) x =
      ap₂ (together Or) (now-free s t l m e h g x.1) (ap₂ (together And) (now-free s t l m e h f x.0) (h (two Until f g) x))
  now-free s t l m e h (leaf (Hold _)) x = elim x [ ]

  pub value-free : (E F : Env) (u : List Event) (f : Formula) → Free choose f → value E u f ≡ value F u f
  value-free E F [] f x = refl
  value-free E F (e ∷ u) f x = now-free (E (e ∷ u)) (F (e ∷ u)) (λ g. value E u g) (λ g. value F u g) e (λ g. value-free E F u g) f x
