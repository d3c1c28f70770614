-- A formula that is folded stays so: folding it again changes nothing (`folded-again`), and what it progresses to is folded too
-- (`folded-progressed`, `folded-over`). All by one family, `Bare`: no constant in the formula, but true on the left of until.
-- `bare-folded`: folding leaves a bare formula as it is. A folded formula is a constant or bare (`folded-bare`), and so is what a bare
-- one progresses to (`bare-progressed`). Assumes nothing.
use mathlib.Core.Path.{◌≡◌, refl, sym, ap, ap₂, ◌∙◌, subst}
use mathlib.Core.Bool.{Bool, true, false}
use mathlib.Core.List.{List, [], ◌∷◌}
use mathlib.Core.Logic.{◌⊎◌, inl, inr, ⊎_elim}
use Prim.Native.Nat.{ℕ}
use native.Mathlib.Omega.{arith}
use Rattle.lists.specs.Tests.{bit}
use Rattle.kinds.specs.declared.Leaf.TheVariants.{Const, Prop, Hold}
use Rattle.kinds.specs.declared.Unary.{Unary}
use Rattle.kinds.specs.declared.Unary.TheVariants.{Not, Next, Ever}
use Rattle.kinds.specs.declared.Join.{Join}
use Rattle.kinds.specs.declared.Join.TheVariants.{And, Or}
use Rattle.kinds.specs.declared.Binary.TheVariants.{Joined, Until}
use Rattle.answers.specs.declared.Verdict.TheVariants.{Pending}
use Rattle.ltl.specs.Formula.{Formula, leaf, one, two, constant, join, same_bool}
use Rattle.ltl.specs.Meaning.{Event}
use Rattle.ltl.specs.Progression.{is_constant, negated, deciding, joined, progressed, progressed_over, verdict_of}
use Rattle.lists.proofs.Tests.{no_true}
use Rattle.ltl.proofs.Joining.{joined-cases}
use Rattle.folded.specs.Folding.{is_either, folded_one, folded_two, folded}
use Rattle.folded.proofs.Cases.{either_is, either-constant, constant-injective, negated-cases, of_constant, folded-one-cases, folded-join-cases, folded-until-cases}

-- no constant stands in the formula, but true as the left operand of until
abbrev pub Bare : Formula → Type 0
Bare (leaf (Const v)) = ⊥
Bare (leaf (Prop i)) = Unit {0}
Bare (leaf (Hold k)) = Unit {0}
Bare (one o f) = Bare f
Bare (two (Joined j) f g) = Bare f × Bare g
Bare (two Until f g) = ((f ≡ constant true) ⊎ Bare f) × Bare g

-- a constant, or a formula without
abbrev Clear : Formula → Type 0
Clear f = (is_either f ≡ true) ⊎ Bare f

-- ---- a bare formula is no constant, and folded
bare-never : (f : Formula) (v : Bool) → Bare f → f ≡ constant v → ⊥
bare-never f v b e = subst (λ (x : Formula). Bare x) e b

-- folding leaves a node that has no constant to fold
one-stays : (o : Unary) (f : Formula) → Bare f → folded_one o f ≡ one o f
one-stays o f b = folded-one-cases (λ x. x ≡ one o f) o f (λ v e. absurd (bare-never f v b e)) (λ n. refl)

join-stays : (j : Join) (f g : Formula) → Bare f → Bare g → folded_two (Joined j) f g ≡ join j f g
join-stays j f g b c =
    folded-join-cases (λ x. x ≡ join j f g) j f g
    (λ e. absurd (bare-never f _ b e))
    (λ e. absurd (bare-never g _ c e))
    (λ e. absurd (bare-never f _ b e))
    (λ e. absurd (bare-never g _ c e))
    (λ n m. refl)

until-stays : (f g : Formula) → (f ≡ constant true) ⊎ Bare f → Bare g → folded_two Until f g ≡ two Until f g
until-stays f g b c =
    folded-until-cases (λ x. x ≡ two Until f g) f g
    (λ e. (let d = either_is g e in absurd (bare-never g d.0 c d.1)))
    (λ e. absurd (⊎_elim (λ t. no_true (constant-injective false true (sym e ∙ t))) (λ h. bare-never f false h e) b))
    (λ n m. refl)

pub bare-folded : (f : Formula) → Bare f → folded f ≡ f
bare-folded (leaf a) b = refl
bare-folded (one o f) b = ap (folded_one o) (bare-folded f b) ∙ one-stays o f b
bare-folded (two (Joined j) f g) b = ap₂ (folded_two (Joined j)) (bare-folded f b.0) (bare-folded g b.1) ∙ join-stays j f g b.0 b.1
bare-folded (two Until f g) b =
    ap₂ (folded_two Until) (⊎_elim (λ e. ap folded e ∙ sym e) (λ h. bare-folded f h) b.0) (bare-folded g b.1) ∙ until-stays f g b.0 b.1

clear-folded : (f : Formula) → Clear f → folded f ≡ f
clear-folded f (inl e) = let c = either_is f e in ap folded c.1 ∙ sym c.1
clear-folded f (inr b) = bare-folded f b

-- ---- a folded formula is a constant or bare
clear-bare : (f : Formula) → is_either f ≡ false → Clear f → Bare f
clear-bare f n (inl e) = absurd (no_true (sym n ∙ e))
clear-bare f n (inr b) = b

clear-true : (f : Formula) → is_constant false f ≡ false → Clear f → (f ≡ constant true) ⊎ Bare f
unfolding is_constant same_bool
clear-true f n (inl e) = let c = either_is f e in inl (go c.0 c.1)
  where
    go : (v : Bool) → f ≡ constant v → f ≡ constant true
    go true e = e
    go false e = absurd (no_true (sym n ∙ ap (is_constant false) e))
clear-true f n (inr b) = inr b

pub folded-bare : (f : Formula) → (is_either (folded f) ≡ true) ⊎ Bare (folded f)
folded-bare (leaf (Const v)) = inl (either-constant v)
folded-bare (leaf (Prop i)) = inr tt
folded-bare (leaf (Hold k)) = inr tt
folded-bare (one o f) = folded-one-cases Clear o (folded f) (λ v e. inl (either-constant (of_constant o v))) (λ n. inr (clear-bare (folded f) n (folded-bare f)))
folded-bare (two (Joined j) f g) =
    folded-join-cases Clear j (folded f) (folded g)
    (λ e. inl (either-constant (deciding j)))
    (λ e. inl (either-constant (deciding j)))
    (λ e. folded-bare g)
    (λ e. folded-bare f)
    (λ n m. inr (clear-bare (folded f) n (folded-bare f), clear-bare (folded g) m (folded-bare g)))
folded-bare (two Until f g) =
    folded-until-cases Clear (folded f) (folded g)
    (λ e. folded-bare g)
    (λ e. folded-bare g)
    (λ n m. inr (clear-true (folded f) m (folded-bare f), clear-bare (folded g) n (folded-bare g)))

pub folded-again : (f : Formula) → folded (folded f) ≡ folded f
folded-again f = clear-folded (folded f) (folded-bare f)

-- ---- progressing
constant-known : (v : Bool) → verdict_of (constant v) ≡ Pending → ⊥
constant-known true e = let z : ◌≡◌ {A = ℕ} 0 1 = cc in omega arith
constant-known false e = let z : ◌≡◌ {A = ℕ} 0 1 = cc in omega arith

clear-pending : (f : Formula) → verdict_of f ≡ Pending → Clear f → Bare f
clear-pending f p (inl e) = let c = either_is f e in absurd (constant-known c.0 (ap verdict_of (sym c.1) ∙ p))
clear-pending f p (inr b) = b

negated-clear : (f : Formula) → Clear f → Clear (negated f)
negated-clear f c = negated-cases Clear f (λ e. inl (either-constant false)) (λ e. inl (either-constant true)) (λ n. inr (clear-bare f n c))

joined-clear : (j : Join) (l r : Formula) → Clear l → Clear r → Clear (joined j l r)
joined-clear j l r c d =
    joined-cases Clear j l r
    (λ e. inl (either-constant (deciding j)))
    (λ e. inl (either-constant (deciding j)))
    (λ e. d)
    (λ e. c)
    (λ m p q. d)
    (λ p q. inr (clear-pending l p c, clear-pending r q d))

-- true on the left of until is gone in what until unfolds to
pub bare-progressed : (e : Event) (f : Formula) → Bare f → (is_either (progressed e f) ≡ true) ⊎ Bare (progressed e f)
bare-progressed e (leaf (Prop i)) b = inl (either-constant (bit e i))
bare-progressed e (leaf (Hold k)) b = inr tt
bare-progressed e (one Not f) b = negated-clear (progressed e f) (bare-progressed e f b)
bare-progressed e (one Next f) b = inr b
bare-progressed e (one (Ever j) f) b = joined-clear j (progressed e f) (one (Ever j) f) (bare-progressed e f b) (inr b)
bare-progressed e (two (Joined j) f g) b = joined-clear j (progressed e f) (progressed e g) (bare-progressed e f b.0) (bare-progressed e g b.1)
bare-progressed e (two Until f g) b =
    let left = ⊎_elim {C = Clear (progressed e f)} (λ t. inl (ap (λ (x : Formula). is_either (progressed e x)) t ∙ either-constant true)) (λ h. bare-progressed e f h) b.0 in
    joined-clear Or (progressed e g) (joined And (progressed e f) (two Until f g)) (bare-progressed e g b.1)
    (joined-clear And (progressed e f) (two Until f g) left (inr b))
bare-progressed e (leaf (Const _)) b = elim b [ ]

clear-progressed : (e : Event) (f : Formula) → Clear f → Clear (progressed e f)
clear-progressed e f (inl q) = let c = either_is f q in inl (ap (λ (x : Formula). is_either (progressed e x)) c.1 ∙ either-constant c.0)
clear-progressed e f (inr b) = bare-progressed e f b

pub folded-progressed : (e : Event) (f : Formula) → folded f ≡ f → folded (progressed e f) ≡ progressed e f
folded-progressed e f q = clear-folded (progressed e f) (clear-progressed e f (subst Clear q (folded-bare f)))

pub folded-over : (us : List Event) (f : Formula) → folded f ≡ f → folded (progressed_over us f) ≡ progressed_over us f
folded-over [] f q = q
folded-over (e ∷ us) f q = folded-over us (progressed e f) (folded-progressed e f q)
