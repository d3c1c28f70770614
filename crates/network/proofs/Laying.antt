-- Laying out by cases: `laid-elim` is the one induction over laying; every fact about laid parts is an instance of it. It asks of a
-- property of parts that each way of laying keeps it (`Kept`), and of the top of a slot what `Tops` says: `Headed` is such a top by
-- `headed-tops`, given what `Choice` asks of the choice of boards, and the weaker `OwnTop` by `own-tops`. Assumes nothing.
use mathlib.Core.Path.{◌≡◌, refl, sym, ap, ◌∙◌}
use mathlib.Core.Bool.{Bool, true, false}
use mathlib.Core.Logic.{◌⊎◌, inl, inr, ⊎_elim}
use mathlib.Core.Option.{Option, none, some}
use Prim.Native.Nat.{ℕ, ◌+◌}
use lib.ListN.{length}
use lib.Dec.{eqb}
use borrow.Author.Tests.{eqb-true}
use Rattle.lists.specs.Tests.{pick}
use Rattle.lists.proofs.Tests.{no-some}
use Rattle.kinds.specs.declared.Leaf.TheVariants.{Const, Prop, Hold}
use Rattle.kinds.specs.declared.Unary.TheVariants.{Not, Next, Ever}
use Rattle.kinds.specs.declared.Join.{Join}
use Rattle.kinds.specs.declared.Binary.TheVariants.{Joined, Until}
use Rattle.answers.specs.declared.Verdict.TheVariants.{Pending}
use Rattle.ltl.specs.Formula.{Formula, leaf, one, two}
use Rattle.ltl.specs.Progression.{verdict_of}
use Rattle.network.specs.Layout.{Laid, whole, under, beside, cut, looked, laid}
use Rattle.network.proofs.Owned.{Free, Clean, Headed, OwnTop, Flat, free-clean}

-- a constant has no choice, and a next has that of its operand
pub record Choice (choose : Formula → Option ℕ) : Type 0 where
  pub pending : (f : Formula) (c : ℕ) → choose f ≡ some c → verdict_of f ≡ Pending
  pub next : (f : Formula) → choose (one Next f) ≡ choose f

-- each place holder outside next and the temporal operators passes
abbrev pub HoldsIn : (ℕ → Type 0) → Formula → Type 0
HoldsIn Q (leaf (Const v)) = Unit {0}
HoldsIn Q (leaf (Prop i)) = Unit {0}
HoldsIn Q (leaf (Hold m)) = Q m
HoldsIn Q (one Not f) = HoldsIn Q f
HoldsIn Q (one Next f) = Unit {0}
HoldsIn Q (one (Ever j) f) = Unit {0}
HoldsIn Q (two (Joined j) f g) = HoldsIn Q f × HoldsIn Q g
HoldsIn Q (two Until f g) = Unit {0}

-- what laying asks of the top of a slot on a board: a lone proposition is the board's own; a part that stays there, or is chosen for
-- the board, may be one
pub record Tops (choose : Formula → Option ℕ) (Top : ℕ → Formula → Type 0) : Type 0 where
  pub own : (b i : ℕ) → Top b (leaf (Prop i)) → choose (leaf (Prop i)) ≡ some b
  pub stays : (b : ℕ) (f : Formula) → Clean choose f → (choose f ≡ none) ⊎ (choose f ≡ some b) → Top b f

-- a property of parts, of the board and the next number that they are laid with, that each way of laying keeps
pub record Kept (choose : Formula → Option ℕ) (Top : ℕ → Formula → Type 0) (P : ℕ → ℕ → Formula → Laid → Type 0) : Type 0 where
  pub on-constant : (b k : ℕ) (v : Bool) → P b k (leaf (Const v)) (whole (leaf (Const v)))
  pub on-own : (b k i : ℕ) → choose (leaf (Prop i)) ≡ some b → P b k (leaf (Prop i)) (whole (leaf (Prop i)))
  pub on-not : (b k : ℕ) (f : Formula) (x : Laid) → P b k f x → P b k (one Not f) (under Not x)
  pub on-next : (b k : ℕ) (f : Formula) → Free choose f → Top b (one Next f) → P b k (one Next f) (whole (one Next f))
  pub on-joined : (b k : ℕ) (j : Join) (f g : Formula) (x y : Laid) → P b k f x → P b (k + length x.slots) g y
      → P b k (two (Joined j) f g) (beside (Joined j) x y)
  pub on-cut : (b c k : ℕ) (f : Formula) (x : Laid) → choose f ≡ some c → P c (k + 1) f x → P b k f (cut c k x)

module _ (choose : Formula → Option ℕ) where
  -- a part that stays on a board is headed by the board's own proposition, if by any
  headed-chosen : Choice choose → (b : ℕ) (f : Formula) → Clean choose f → (choose f ≡ none) ⊎ (choose f ≡ some b) → Headed choose b f
  headed-chosen choice b (leaf (Const v)) x c = tt
  headed-chosen choice b (leaf (Prop i)) x c = ⊎_elim (λ e. absurd (no-some x.0 (sym e ∙ x.1))) (λ e. e) c
  headed-chosen choice b (leaf (Hold k)) x c = tt
  headed-chosen choice b (one Not f) x c = tt
  headed-chosen choice b (one Next f) x c =
      headed-chosen choice b f (free-clean choose f x) (⊎_elim (λ e. inl (sym (choice.next f) ∙ e)) (λ e. inr (sym (choice.next f) ∙ e)) c)
  headed-chosen choice b (one (Ever j) f) x c = tt
  headed-chosen choice b (two o f g) x c = tt

  pub headed-tops : Choice choose → Tops choose (Headed choose)
  headed-tops choice = record { own = λ b i h. h; stays = headed-chosen choice }

  own-chosen : (b : ℕ) (f : Formula) → Clean choose f → (choose f ≡ none) ⊎ (choose f ≡ some b) → OwnTop choose b f
  own-chosen b (leaf (Const v)) x c = tt
  own-chosen b (leaf (Prop i)) x c = ⊎_elim (λ e. absurd (no-some x.0 (sym e ∙ x.1))) (λ e. e) c
  own-chosen b (leaf (Hold k)) x c = tt
  own-chosen b (one o f) x c = tt
  own-chosen b (two o f g) x c = tt

  pub own-tops : Tops choose (OwnTop choose)
  own-tops = record { own = λ b i h. h; stays = own-chosen }

  module _ (Top : ℕ → Formula → Type 0) (tops : Tops choose Top) (P : ℕ → ℕ → Formula → Laid → Type 0) (kept : Kept choose Top P)
      (hold : ℕ → ℕ → Laid) (Q : ℕ → Type 0) (on-hold : (b k m : ℕ) → Q m → P b k (leaf (Hold m)) (hold m k)) where
    looked-elim : (o : Option ℕ) (b k : ℕ) (f : Formula) (lay : ℕ → ℕ → Laid) → choose f ≡ o
        → ((c n : ℕ) → (choose f ≡ none) ⊎ (choose f ≡ some c) → P c n f (lay c n)) → P b k f (looked o b k lay)
    unfolding looked pick
    looked-elim none b k f lay e h = h b k (inl e)
    looked-elim (some c) b k f lay e h = go (eqb c b) refl
      where
        go : (t : Bool) → eqb c b ≡ t → P b k f (pick t (lay b k) (cut c k (lay c (k + 1))))
        go true q = h b k (inr (e ∙ ap some (eqb-true c b q)))
        go false q = kept.on-cut b c k f (lay c (k + 1)) e (h c (k + 1) (inr e))

    pub laid-elim : (f : Formula) (b k : ℕ) → Clean choose f → Flat choose f → Top b f → HoldsIn Q f → P b k f (laid choose hold f b k)
    unfolding laid
    laid-elim (leaf (Const v)) b k c l h q = kept.on-constant b k v
    laid-elim (leaf (Prop i)) b k c l h q = kept.on-own b k i (tops.own b i h)
    laid-elim (leaf (Hold m)) b k c l h q = on-hold b k m q
    laid-elim (one Not f) b k c l h q =
        kept.on-not b k f (looked (choose f) b k (laid choose hold f))
        (looked-elim (choose f) b k f (laid choose hold f) refl (λ d n o. laid-elim f d n c l (tops.stays d f c o) q))
    laid-elim (one Next f) b k c l h q = kept.on-next b k f c h
    laid-elim (two (Joined j) f g) b k c l h q =
        let x = looked (choose f) b k (laid choose hold f) in
        kept.on-joined b k j f g x (looked (choose g) b (k + length x.slots) (laid choose hold g))
        (looked-elim (choose f) b k f (laid choose hold f) refl (λ d n o. laid-elim f d n c.0 l.0 (tops.stays d f c.0 o) q.0))
        (looked-elim (choose g) b (k + length x.slots) g (laid choose hold g) refl (λ d n o. laid-elim g d n c.1 l.1 (tops.stays d g c.1 o) q.1))
    laid-elim (one (Ever _) f) b k c l h q = elim l [ ]
    laid-elim (two Until f g) b k c l h q = elim l [ ]
