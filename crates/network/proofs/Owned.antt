-- What every slot of a laid network keeps. `Free`: no place holder, and each proposition has a board. `Clean`: place holders
-- outside next and the temporal operators alone. `Headed`: where nothing but nexts stands before a proposition, it is the board's
-- own. `OwnTop`: a lone proposition is the board's own, which is all that the state check sees of that. `Plain`: unfolded, with the
-- board's own propositions alone outside next, and each next headed so. A laid slot is plain; a stepped one is clean and headed;
-- unfolded and laid again it is plain. Assumes nothing.
use mathlib.Core.Path.{◌≡◌}
use mathlib.Core.Option.{Option, some}
use Prim.Native.Nat.{ℕ}
use Rattle.kinds.specs.declared.Leaf.TheVariants.{Const, Prop, Hold}
use Rattle.kinds.specs.declared.Unary.TheVariants.{Not, Next, Ever}
use Rattle.kinds.specs.declared.Binary.TheVariants.{Joined, Until}
use Rattle.answers.specs.declared.Verdict.{Verdict}
use Rattle.answers.specs.declared.Verdict.TheVariants.{False, True, Pending}
use Rattle.ltl.specs.Formula.{Formula, leaf, one, two}
use Rattle.ltl.specs.Meaning.{Event}
use Rattle.ltl.specs.Progression.{unfolded, resolved, filled_by, filled}
use Rattle.ltl.proofs.Joining.{joined-elim, negated-elim}

module _ (choose : Formula → Option ℕ) where
  -- the proposition has a board
  abbrev pub Homed : ℕ → Type 0
  Homed i = (c : ℕ) × (choose (leaf (Prop i)) ≡ some c)

  abbrev pub Free : Formula → Type 0
  Free (leaf (Const v)) = Unit {0}
  Free (leaf (Prop i)) = Homed i
  Free (leaf (Hold k)) = ⊥
  Free (one o f) = Free f
  Free (two o f g) = Free f × Free g

  abbrev pub Clean : Formula → Type 0
  Clean (leaf (Const v)) = Unit {0}
  Clean (leaf (Prop i)) = Homed i
  Clean (leaf (Hold k)) = Unit {0}
  Clean (one Not f) = Clean f
  Clean (one Next f) = Free f
  Clean (one (Ever j) f) = Free f
  Clean (two (Joined j) f g) = Clean f × Clean g
  Clean (two Until f g) = Free f × Free g

  abbrev pub Headed : ℕ → Formula → Type 0
  Headed b (leaf (Const v)) = Unit {0}
  Headed b (leaf (Prop i)) = choose (leaf (Prop i)) ≡ some b
  Headed b (leaf (Hold k)) = Unit {0}
  Headed b (one Not f) = Unit {0}
  Headed b (one Next f) = Headed b f
  Headed b (one (Ever j) f) = Unit {0}
  Headed b (two o f g) = Unit {0}

  abbrev pub OwnTop : ℕ → Formula → Type 0
  OwnTop b (leaf (Const v)) = Unit {0}
  OwnTop b (leaf (Prop i)) = choose (leaf (Prop i)) ≡ some b
  OwnTop b (leaf (Hold k)) = Unit {0}
  OwnTop b (one o f) = Unit {0}
  OwnTop b (two o f g) = Unit {0}

  abbrev pub Plain : ℕ → Formula → Type 0
  Plain b (leaf (Const v)) = Unit {0}
  Plain b (leaf (Prop i)) = choose (leaf (Prop i)) ≡ some b
  Plain b (leaf (Hold k)) = Unit {0}
  Plain b (one Not f) = Plain b f
  Plain b (one Next f) = Free f × Headed b f
  Plain b (one (Ever j) f) = ⊥
  Plain b (two (Joined j) f g) = Plain b f × Plain b g
  Plain b (two Until f g) = ⊥

  pub free-clean : (f : Formula) → Free f → Clean f
  free-clean (leaf (Const v)) x = tt
  free-clean (leaf (Prop i)) x = x
  free-clean (leaf (Hold k)) x = tt
  free-clean (one Not f) x = free-clean f x
  free-clean (one Next f) x = x
  free-clean (one (Ever j) f) x = x
  free-clean (two (Joined j) f g) x = (free-clean f x.0, free-clean g x.1)
  free-clean (two Until f g) x = x

  -- ---- unfolding
  pub unfolded-free : (f : Formula) → Free f → Free (unfolded f)
  unfolded-free (leaf a) x = x
  unfolded-free (one Not f) x = unfolded-free f x
  unfolded-free (one Next f) x = x
  unfolded-free (one (Ever j) f) x = (unfolded-free f x, x)
  unfolded-free (two (Joined j) f g) x = (unfolded-free f x.0, unfolded-free g x.1)
  unfolded-free (two Until f g) x = (unfolded-free g x.1, (unfolded-free f x.0, x))

  pub unfolded-clean : (f : Formula) → Clean f → Clean (unfolded f)
  unfolded-clean (leaf a) x = x
  unfolded-clean (one Not f) x = unfolded-clean f x
  unfolded-clean (one Next f) x = x
  unfolded-clean (one (Ever j) f) x = (free-clean (unfolded f) (unfolded-free f x), x)
  unfolded-clean (two (Joined j) f g) x = (unfolded-clean f x.0, unfolded-clean g x.1)
  unfolded-clean (two Until f g) x = (free-clean (unfolded g) (unfolded-free g x.1), (free-clean (unfolded f) (unfolded-free f x.0), x))

  pub unfolded-headed : (b : ℕ) (f : Formula) → Headed b f → Headed b (unfolded f)
  unfolded-headed b (leaf a) x = x
  unfolded-headed b (one Not f) x = tt
  unfolded-headed b (one Next f) x = x
  unfolded-headed b (one (Ever j) f) x = tt
  unfolded-headed b (two (Joined j) f g) x = tt
  unfolded-headed b (two Until f g) x = tt

  pub unfolded-own-top : (b : ℕ) (f : Formula) → OwnTop b f → OwnTop b (unfolded f)
  unfolded-own-top b (leaf a) x = x
  unfolded-own-top b (one Not f) x = tt
  unfolded-own-top b (one Next f) x = tt
  unfolded-own-top b (one (Ever j) f) x = tt
  unfolded-own-top b (two (Joined j) f g) x = tt
  unfolded-own-top b (two Until f g) x = tt

  -- an unfolded formula has no temporal operator outside next
  abbrev pub Flat : Formula → Type 0
  Flat (leaf a) = Unit {0}
  Flat (one Not f) = Flat f
  Flat (one Next f) = Unit {0}
  Flat (one (Ever j) f) = ⊥
  Flat (two (Joined j) f g) = Flat f × Flat g
  Flat (two Until f g) = ⊥

  pub unfolded-flat : (f : Formula) → Flat (unfolded f)
  unfolded-flat (leaf a) = tt
  unfolded-flat (one Not f) = unfolded-flat f
  unfolded-flat (one Next f) = tt
  unfolded-flat (one (Ever j) f) = (unfolded-flat f, tt)
  unfolded-flat (two (Joined j) f g) = (unfolded-flat f, unfolded-flat g)
  unfolded-flat (two Until f g) = (unfolded-flat g, (unfolded-flat f, tt))

  -- ---- stepping a plain slot
  module _ (s : Event) (held : ℕ → Verdict) where
    abbrev after : Formula → Formula
    after f = resolved s (filled held f)

    filled-hold : (v : Verdict) (k : ℕ) → Clean (resolved s (leaf (filled_by v k)))
    filled-hold True k = tt
    filled-hold False k = tt
    filled-hold Pending k = tt

    headed-hold : (b : ℕ) (v : Verdict) (k : ℕ) → Headed b (resolved s (leaf (filled_by v k)))
    headed-hold b True k = tt
    headed-hold b False k = tt
    headed-hold b Pending k = tt

    pub stepped-clean : (b : ℕ) (f : Formula) → Plain b f → Clean (after f)
    stepped-clean b (leaf (Const v)) x = tt
    stepped-clean b (leaf (Prop i)) x = tt
    stepped-clean b (leaf (Hold k)) x = filled-hold (held k) k
    stepped-clean b (one Not f) x = negated-elim (λ g. Clean g) (after f) (λ e. tt) (λ e. tt) (stepped-clean b f x)
    stepped-clean b (one Next f) x = free-clean f x.0
    stepped-clean b (two (Joined j) f g) x =
        let l = stepped-clean b f x.0 in
        let r = stepped-clean b g x.1 in
        joined-elim (λ h. Clean h) j (after f) (after g) (λ e. tt) (λ e. tt) (λ e. r) (λ e. l) (λ m. r) (l, r)
    stepped-clean b (one (Ever _) f) x = elim x [ ]
    stepped-clean b (two Until f g) x = elim x [ ]

    pub stepped-headed : (b : ℕ) (f : Formula) → Plain b f → Headed b (after f)
    stepped-headed b (leaf (Const v)) x = tt
    stepped-headed b (leaf (Prop i)) x = tt
    stepped-headed b (leaf (Hold k)) x = headed-hold b (held k) k
    stepped-headed b (one Not f) x = negated-elim (λ g. Headed b g) (after f) (λ e. tt) (λ e. tt) tt
    stepped-headed b (one Next f) x = x.1
    stepped-headed b (two (Joined j) f g) x =
        let l = stepped-headed b f x.0 in
        let r = stepped-headed b g x.1 in
        joined-elim (λ h. Headed b h) j (after f) (after g) (λ e. tt) (λ e. tt) (λ e. r) (λ e. l) (λ m. r) tt
    stepped-headed b (one (Ever _) f) x = elim x [ ]
    stepped-headed b (two Until f g) x = elim x [ ]
