-- Parts that are looked at one after the other: two rows are one (`looked-both`, `spells-both`), and a part whose top is written is its
-- operands looked at (`top-laid`). Assumes nothing.
use mathlib.Core.Path.{◌≡◌, refl, sym, ap, subst}
use mathlib.Core.List.{List, [], ◌∷◌, ◌++◌, append-nil}
use mathlib.Core.Option.{Option}
use Prim.Native.Nat.{ℕ, ◌+◌}
use native.Mathlib.Omega.{arith}
use Rattle.kinds.specs.Kinds.{leaf_code, unary_code, join_code}
use Rattle.kinds.specs.declared.Leaf.TheVariants.{Const, Prop, Hold}
use Rattle.kinds.specs.declared.Unary.TheVariants.{Not, Next}
use Rattle.ltl.specs.Formula.{Formula, leaf, one, join, size}
use Rattle.network.specs.Layout.{Slot}
use Rattle.registers.specs.Register.{laid_noted}
use Rattle.registers.specs.Relaying.{holds_of}
use Rattle.registers.specs.Outer.{outer}
use Rattle.registers.proofs.Members.{OneOf, one_none}
use Rattle.tokens.specs.Tokens.{text_code, SpellsFrom, spells-leaf, spells-not, spells-next, spells-join}
use Rattle.separating.specs.Rows.{sizes_of, outers_of, holds_all, looked_at, looked_all, SpellsAll}
use Rattle.parting.specs.Tops.{TopOf, top-constant, top-proposition, top-hold, top-not, top-next, top-join}

-- ---- numbers of two rows
pub outers-both : (fs gs : List Formula) → outers_of (fs ++ gs) ≡ outers_of fs + outers_of gs
outers-both [] gs = omega arith
outers-both (f ∷ fs) gs = let h = outers-both fs gs in omega arith

module _ (choose : Formula → Option ℕ) (held : ℕ → ℕ) (b : ℕ) where
  -- two rows are looked at as one
  pub looked-both : (fs gs : List Formula) (reg : List Slot)
      → let y = looked_all choose held b gs (looked_all choose held b fs reg).register in
      ((looked_all choose held b (fs ++ gs) reg).heres ≡ (looked_all choose held b fs reg).heres ++ y.heres)
      × ((looked_all choose held b (fs ++ gs) reg).register ≡ y.register)
  looked-both [] gs reg = (refl, refl)
  looked-both (f ∷ fs) gs reg = let h = looked-both fs gs (looked_at choose held b f reg).register in (ap ((looked_at choose held b f reg).here ∷◌) h.0, h.1)

-- ---- in tokens
module _ (bytes marks : List ℕ) where
  -- the tokens of two rows, apart
  pub spells-both : (fs gs : List Formula) (a c : List ℕ) → SpellsAll bytes marks (fs ++ gs) a c
      → (b : List ℕ) × SpellsAll bytes marks fs a b × SpellsAll bytes marks gs b c
  spells-both [] gs a c s = (a, refl, s)
  spells-both (f ∷ fs) gs a c s = let r = spells-both fs gs s.0 c s.2 in (r.0, (s.0, s.1, r.1), r.2)

-- a row of two is one and one
holds-two : (k : ℕ) (f g : Formula) → OneOf k (holds_all (f ∷ (g ∷ []))) → OneOf k (holds_of f ++ holds_of g)
holds-two k f g h = subst (λ (l : List ℕ). OneOf k (holds_of f ++ l)) (append-nil (holds_of g)) h

-- ---- the top of a part, and its operands looked at: together they are the part laid
module _ (bytes marks : List ℕ) (choose : Formula → Option ℕ) (held : ℕ → ℕ) (b : ℕ) (reg : List Slot) where
  pub record TopLaid (f : Formula) (token nodes : ℕ) (operands : List Formula) : Type 0 where
    pub register-is : (laid_noted choose held f b reg).register ≡ (looked_all choose held b operands reg).register
    pub spells : (us vs : List ℕ) → SpellsAll bytes marks (looked_all choose held b operands reg).heres us vs
        → SpellsFrom bytes marks (laid_noted choose held f b reg).here (token ∷ us) vs
    pub nodes-are : nodes + sizes_of (looked_all choose held b operands reg).heres ≡ size (laid_noted choose held f b reg).here
    pub holds : (k : ℕ) → OneOf k (holds_all (looked_all choose held b operands reg).heres) → OneOf k (holds_of (laid_noted choose held f b reg).here)
    pub outer-is : 1 + outers_of operands ≡ outer f

  -- by the part's kind
  pub top-laid : {f : Formula} {token nodes : ℕ} {operands : List Formula} → TopOf bytes marks held f token nodes operands → TopLaid f token nodes operands
  unfolding laid_noted holds_of
  top-laid (top-constant v) =
      record {
        register-is = refl;
        spells = λ us vs s. subst (λ (x : List ℕ). SpellsFrom bytes marks (leaf (Const v)) (leaf_code (Const v) ∷ x) vs) (sym s) (spells-leaf (Const v));
        nodes-are = refl;
        holds = λ k h. absurd (one_none k h);
        outer-is = refl;
      }
  top-laid (top-proposition i) =
      record {
        register-is = refl;
        spells = λ us vs s. subst (λ (x : List ℕ). SpellsFrom bytes marks (leaf (Prop i)) (leaf_code (Prop i) ∷ x) vs) (sym s) (spells-leaf (Prop i));
        nodes-are = refl;
        holds = λ k h. absurd (one_none k h);
        outer-is = refl;
      }
  top-laid (top-hold m) =
      record {
        register-is = refl;
        spells = λ us vs s.
            subst (λ (x : List ℕ). SpellsFrom bytes marks (leaf (Hold (held m))) (leaf_code (Hold (held m)) ∷ x) vs) (sym s) (spells-leaf (Hold (held m)));
        nodes-are = refl;
        holds = λ k h. absurd (one_none k h);
        outer-is = refl;
      }
  top-laid (top-not f) =
      record {
        register-is = refl;
        spells = λ us vs s.
            subst (λ (x : List ℕ). SpellsFrom bytes marks (one Not (looked_at choose held b f reg).here) (unary_code Not ∷ us) x) s.2 (spells-not s.1);
        nodes-are = omega arith;
        holds = λ k h. subst (λ (l : List ℕ). OneOf k l) (append-nil (holds_of (looked_at choose held b f reg).here)) h;
        outer-is = omega arith;
      }
  top-laid (top-next f at t) =
      record {
        register-is = refl;
        spells = λ us vs s. subst (λ (x : List ℕ). SpellsFrom bytes marks (one Next f) ((text_code + at) ∷ x) vs) (sym s) (spells-next at t);
        nodes-are = omega arith;
        holds = λ k h. absurd (one_none k h);
        outer-is = refl;
      }
  top-laid (top-join j f g) =
      let x = looked_at choose held b f reg in
      let y = looked_at choose held b g x.register in
      record {
        register-is = refl;
        spells = λ us vs s.
            subst (λ (c : List ℕ). SpellsFrom bytes marks (join j x.here y.here) (join_code j ∷ us) c) s.2.2 (spells-join j s.1 s.2.1);
        nodes-are = omega arith;
        holds = λ k h. holds-two k x.here y.here h;
        outer-is = omega arith;
      }
