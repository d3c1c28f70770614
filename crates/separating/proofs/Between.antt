-- Between two parts of a slot that is being laid (`BetweenParts`): what is written and what the parts still to be looked at will write is the whole.
-- `between-top`: the slot's own top was written; `between-kept`: a part that stays; `between-cut`: one that became a slot of its own;
-- `between_done`: none is left; `between-deep`: a part was cut deeper than there is room. Assumes nothing.
use mathlib.Core.Path.{◌≡◌, refl, sym, ap, ◌∙◌, subst}
use mathlib.Core.List.{List, [], ◌∷◌, ◌++◌, append_assoc, append-nil}
use mathlib.Core.Logic.{◌⊎◌, inl, inr, ⊎_elim}
use mathlib.Core.Option.{Option}
use Prim.Native.Nat.{ℕ, ◌+◌}
use native.Mathlib.Omega.{arith}
use Rattle.kinds.specs.Kinds.{leaf_code}
use Rattle.kinds.specs.declared.Leaf.TheVariants.{Hold}
use Rattle.ltl.specs.Formula.{Formula, leaf, size}
use Rattle.network.specs.Layout.{Slot}
use Rattle.registers.specs.Register.{Noted, laid_noted}
use Rattle.registers.specs.Relaying.{holds_of}
use Rattle.registers.proofs.Members.{OneOf, one-here, one_left, one_right, one_split}
use Rattle.tokens.specs.Tokens.{spells-leaf, Spelt}
use Rattle.parting.specs.Tops.{TopOf}
use Rattle.separating.specs.Rows.{LookedRow, sizes_of, holds_all, looked_at, looked_all, SpellsAll, BetweenParts}
use Rattle.separating.proofs.Rows.{looked-both, spells-both, top-laid}

-- ---- rows
-- the nodes of two rows
sizes-both : (fs gs : List Formula) → sizes_of (fs ++ gs) ≡ sizes_of fs + sizes_of gs
sizes-both [] gs = omega arith
sizes-both (f ∷ fs) gs = let h = sizes-both fs gs in omega arith

-- an entry that two rows hold is held by one of them
holds-left : (k : ℕ) (fs gs : List Formula) → OneOf k (holds_all (fs ++ gs)) → OneOf k (holds_all fs) ⊎ OneOf k (holds_all gs)
holds-left k [] gs h = inr h
holds-left k (f ∷ fs) gs h =
    ⊎_elim (λ x. inl (one_left (holds_all fs) x)) (λ x. ⊎_elim (λ y. inl (one_right (holds_of f) y)) (λ y. inr y) (holds-left k fs gs x))
    (one_split k (holds_of f) (holds_all (fs ++ gs)) h)

-- ---- the stages
module _ (bytes marks : List ℕ) (choose : Formula → Option ℕ) (held : ℕ → ℕ) (b : ℕ) where
  -- the slot's own top is written: its operands are the parts
  pub between-top : (f : Formula) (token nodes : ℕ) (operands : List Formula) (reg : List Slot) → TopOf bytes marks held f token nodes operands
      → BetweenParts bytes marks choose held b (laid_noted choose held f b reg) (token ∷ []) nodes operands reg
  between-top f token nodes operands reg v =
      let t = top-laid bytes marks choose held b reg v in
      record { register-is = sym t.register-is; spells = λ ts s. t.spells ts [] s; nodes-are = t.nodes-are; holds = t.holds }

  -- a part that stays: its operands come in its place
  pub between-kept : (z : Noted) (written : List ℕ) (n : ℕ) (f : Formula) (fs : List Formula) (reg : List Slot) (token nodes : ℕ) (operands : List Formula)
      → looked_at choose held b f reg ≡ laid_noted choose held f b reg → TopOf bytes marks held f token nodes operands
      → BetweenParts bytes marks choose held b z written n (f ∷ fs) reg
      → BetweenParts bytes marks choose held b z (written ++ (token ∷ [])) (n + nodes) (operands ++ fs) reg
  between-kept z written n f fs reg token nodes operands e v p =
      let t = top-laid bytes marks choose held b reg v in
      let x = laid_noted choose held f b reg in
      let q = looked-both choose held b operands fs reg in
      let ops = looked_all choose held b operands reg in
      -- what the parts behind it become: the register is the same
      let r : (looked_at choose held b f reg).register ≡ ops.register = ap (λ (y : Noted). y.register) e ∙ t.register-is in
      let rest = looked_all choose held b fs ops.register in
      let h : looked_all choose held b fs (looked_at choose held b f reg).register ≡ rest = ap (looked_all choose held b fs) r in
      let hs : (looked_all choose held b (f ∷ fs) reg).heres ≡ x.here ∷ rest.heres =
      ap (λ (y : Noted). y.here ∷ (looked_all choose held b fs (looked_at choose held b f reg).register).heres) e ∙ ap (λ (y : LookedRow). x.here ∷ y.heres) h in
      record {
        register-is = q.1 ∙ sym (ap (λ (y : LookedRow). y.register) h) ∙ p.register-is;
        spells = λ ts s.
            let s1 = spells-both bytes marks ops.heres rest.heres ts [] (subst (λ (l : List Formula). SpellsAll bytes marks l ts []) q.0 s) in
            let s2 : SpellsAll bytes marks (x.here ∷ rest.heres) (token ∷ ts) [] = (s1.0, t.spells ts s1.0 s1.1, s1.2) in
            subst (λ (l : List ℕ). Spelt bytes marks z.here l) (sym (append_assoc written (token ∷ []) ts))
            (p.spells (token ∷ ts) (subst (λ (l : List Formula). SpellsAll bytes marks l (token ∷ ts) []) (sym hs) s2));
        nodes-are =
            let a = ap sizes_of q.0 in
            let c = sizes-both ops.heres rest.heres in
            let d = ap sizes_of hs in
            let m = p.nodes-are in
            let l = t.nodes-are in
            omega arith;
        holds = λ k i.
            let j = holds-left k ops.heres rest.heres (subst (λ (l : List Formula). OneOf k (holds_all l)) q.0 i) in
            let m : OneOf k (holds_of x.here ++ holds_all rest.heres) =
            ⊎_elim (λ y. one_left (holds_all rest.heres) (t.holds k y)) (λ y. one_right (holds_of x.here) y) j in
            p.holds k (subst (λ (l : List Formula). OneOf k (holds_all l)) (sym hs) m);
      }

  -- a part that became a slot of its own: the place holder of its entry is written
  pub between-cut : (z : Noted) (written : List ℕ) (n : ℕ) (f : Formula) (fs : List Formula) (reg : List Slot) (k : ℕ) (after : List Slot)
      → looked_at choose held b f reg ≡ record { here = leaf (Hold k); register = after } → BetweenParts bytes marks choose held b z written n (f ∷ fs) reg
      → BetweenParts bytes marks choose held b z (written ++ (leaf_code (Hold k) ∷ [])) (n + 1) fs after
  between-cut z written n f fs reg k after e p =
      let rest = looked_all choose held b fs after in
      let hs : (looked_all choose held b (f ∷ fs) reg).heres ≡ leaf (Hold k) ∷ rest.heres =
      ap (λ (y : Noted). y.here ∷ (looked_all choose held b fs y.register).heres) e in
      record {
        register-is = sym (ap (λ (y : Noted). (looked_all choose held b fs y.register).register) e) ∙ p.register-is;
        spells = λ ts s.
            subst (λ (l : List ℕ). Spelt bytes marks z.here l) (sym (append_assoc written (leaf_code (Hold k) ∷ []) ts))
            (p.spells (leaf_code (Hold k) ∷ ts)
            (subst (λ (l : List Formula). SpellsAll bytes marks l (leaf_code (Hold k) ∷ ts) []) (sym hs) (ts, spells-leaf (Hold k), s)));
        nodes-are = let d = ap sizes_of hs in let m = p.nodes-are in omega arith;
        holds = λ i h. p.holds i (subst (λ (l : List Formula). OneOf i (holds_all l)) (sym hs) (one_right (holds_of (leaf (Hold k))) h));
      }

  -- nothing is left
  pub between_done : (z : Noted) (written : List ℕ) (n : ℕ) (reg : List Slot) → BetweenParts bytes marks choose held b z written n [] reg
      → (reg ≡ z.register) × Spelt bytes marks z.here written × (n ≡ size z.here)
  between_done z written n reg p =
      (p.register-is, subst (λ (l : List ℕ). Spelt bytes marks z.here l) (append-nil written) (p.spells [] refl), let m = p.nodes-are in omega arith)

  -- a part became the entry k: the slot holds that entry
  pub between-deep : (z : Noted) (written : List ℕ) (n : ℕ) (f : Formula) (fs : List Formula) (reg : List Slot) (k : ℕ) (after : List Slot)
      → looked_at choose held b f reg ≡ record { here = leaf (Hold k); register = after } → BetweenParts bytes marks choose held b z written n (f ∷ fs) reg
      → OneOf k (holds_of z.here)
  unfolding holds_of
  between-deep z written n f fs reg k after e p =
      let hs : (looked_all choose held b (f ∷ fs) reg).heres ≡ leaf (Hold k) ∷ (looked_all choose held b fs after).heres =
      ap (λ (y : Noted). y.here ∷ (looked_all choose held b fs y.register).heres) e in
      p.holds k (subst (λ (l : List Formula). OneOf k (holds_all l)) (sym hs) (one-here refl))
