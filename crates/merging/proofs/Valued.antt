-- The value of a slot is given by its tree alone: no environment, no numbers (`tree-value`). A pass-on slot has the value of what it
-- holds (`slot-on-value`). Numbers put back, the value stays (`shown-value`). Assumes nothing.
use mathlib.Core.Path.{◌≡◌, refl, sym, ap, ap₂, ◌∙◌, subst}
use mathlib.Core.Bool.{Bool, true, false}
use mathlib.Core.List.{List, [], ◌∷◌, ◌++◌}
use mathlib.Core.Logic.{◌⊎◌, inl, inr, ⊎_elim}
use mathlib.Core.Option.{Option, none, some}
use Prim.Native.Nat.{ℕ, zero, suc, ◌+◌, ◌<◌, ◌≤◌}
use native.Mathlib.Omega.{arith}
use lib.ListN.{length, get_or}
use Rattle.kinds.specs.declared.Leaf.TheVariants.{Const, Prop, Hold}
use Rattle.kinds.specs.declared.Unary.TheVariants.{Not, Next}
use Rattle.kinds.specs.declared.Join.{Join}
use Rattle.kinds.specs.declared.Binary.TheVariants.{Joined}
use Rattle.answers.specs.declared.Verdict.{Verdict}
use Rattle.answers.specs.declared.Verdict.TheVariants.{Pending}
use Rattle.ltl.specs.Formula.{Formula, leaf, one, two}
use Rattle.ltl.specs.Meaning.{Event}
use Rattle.ltl.specs.Progression.{verdict_of}
use Rattle.network.specs.Layout.{Slot, slot_at}
use Rattle.ltl.proofs.Verdicts.{opposite, together}
use Rattle.network.proofs.Owned.{Free, Plain}
use Rattle.network.proofs.Values.{Env, now, value, value-free, never}
use Rattle.network.proofs.Laying.{Choice, HoldsIn}
use Rattle.network.proofs.Holding.{holds-map, free-holds}
use Rattle.network.proofs.Layouts.{each-slot}
use Rattle.network.proofs.Origins.{Models}
use Rattle.network.proofs.Relaying.{SlotOk, AllOk}
use Rattle.merging.specs.Merge.{Tree, stays, negation, pair, slot, grown, slot_on, tree_at, Met, met, place, shown}
use Rattle.merging.proofs.Among.{Among, here, there, Holds, itself, under-not, on-left, on-right, split-among}

-- ---- the value of a tree, from some event on
abbrev pub now_tree : (Formula → Verdict) → Event → Tree → Verdict
now_tree later e (stays f) = now (λ k. Pending) later e f
now_tree later e (negation t) = opposite (now_tree later e t)
now_tree later e (pair j t u) = together j (now_tree later e t) (now_tree later e u)
now_tree later e (slot b t) = now_tree later e t

abbrev pub tree_value : Event → List Event → Tree → Verdict
tree_value e us t = now_tree (λ g. value never us g) e t

pub slot-on-value : (e : Event) (us : List Event) (b : ℕ) (t : Tree) → tree_value e us (slot_on b t) ≡ tree_value e us t
slot-on-value e us b (stays f) = refl
slot-on-value e us b (negation t) = refl
slot-on-value e us b (pair j t u) = refl
slot-on-value e us b (slot c t) = refl

module _ (choose : Formula → Option ℕ) where
  -- what stands whole in it is plain and free, each slot's on its own board
  abbrev pub OkTree : ℕ → Tree → Type 0
  OkTree b (stays f) = Plain choose b f × Free choose f
  OkTree b (negation t) = OkTree b t
  OkTree b (pair j t u) = OkTree b t × OkTree b u
  OkTree b (slot c t) = OkTree c t

  pub slot-on-ok : (b c : ℕ) (t : Tree) → OkTree c t → OkTree b (slot_on c t)
  slot-on-ok b c (stays f) o = o
  slot-on-ok b c (negation t) o = o
  slot-on-ok b c (pair j t u) o = o
  slot-on-ok b c (slot d t) o = o

  pub grown-ok : (b : ℕ) (held : ℕ → Tree) (f : Formula) → Plain choose b f → HoldsIn (λ m. (b : ℕ) → OkTree b (held m)) f → OkTree b (grown held f)
  grown-ok b held (leaf (Const v)) p h = (tt, tt)
  grown-ok b held (leaf (Prop i)) p h = (p, (b, p))
  grown-ok b held (leaf (Hold m)) p h = h b
  grown-ok b held (one Not f) p h = grown-ok b held f p h
  grown-ok b held (one Next f) p h = (p, p.0)
  grown-ok b held (two (Joined j) f g) p h = (grown-ok b held f p.0 h.0, grown-ok b held g p.1 h.1)
  grown-ok b held (one (Rattle.kinds.specs.declared.Unary.TheVariants.Ever _) f) p h = elim p [ ]
  grown-ok b held (two Rattle.kinds.specs.declared.Binary.TheVariants.Until f g) p h = elim p [ ]

  pub met-ok : (k n b c : ℕ) (t r : Tree) → OkTree b r → Among n c t (met k r) → OkTree c t
  met-ok k n b c t (negation r) o a = met-ok k n b c t r o a
  met-ok k n b c t (pair j r s) o a = ⊎_elim (λ x. met-ok k n b c t r o.0 x) (λ x. met-ok k n b c t s o.1 x) (split-among n c t (met k r) (met k s) a)
  met-ok k n b c t (slot d r) o (here p q s) = subst (λ (i : ℕ). OkTree i t) (sym q) (subst (λ (x : Tree). OkTree d x) (sym s) o)
  met-ok k n b c t (slot d r) o (there a) = met-ok (k + 1) n d c t r o a
  met-ok k n b c t (stays _) o a = elim a [ ]

  -- ---- numbers put back
  module _ (row : List Met) where
    pub shown-plain : (b : ℕ) (t : Tree) → OkTree b t → Plain choose b (shown row t)
    shown-plain b (stays f) o = o.0
    shown-plain b (negation t) o = shown-plain b t o
    shown-plain b (pair j t u) o = (shown-plain b t o.0, shown-plain b u o.1)
    shown-plain b (slot c t) o = tt

    pub shown-holds : (Q : ℕ → Type 0) (b : ℕ) (t : Tree) → OkTree b t → ((c : ℕ) (u : Tree) → Holds c u t → Q (suc (place c u row))) → HoldsIn Q (shown row t)
    shown-holds Q b (stays f) o h = free-holds choose Q f o.1
    shown-holds Q b (negation t) o h = shown-holds Q b t o (λ c u x. h c u (under-not x))
    shown-holds Q b (pair j t u) o h = (shown-holds Q b t o.0 (λ c v x. h c v (on-left x)), shown-holds Q b u o.1 (λ c v x. h c v (on-right x)))
    shown-holds Q b (slot c t) o h = h c t (itself refl refl)

    pub shown-value : (E : Env) (e : Event) (us : List Event) (b : ℕ) (t : Tree) → OkTree b t
        → ((c : ℕ) (u : Tree) → Holds c u t → E (e ∷ us) (suc (place c u row)) ≡ tree_value e us u) → value E (e ∷ us) (shown row t) ≡ tree_value e us t
    shown-value E e us b (stays f) o h = value-free choose E never (e ∷ us) f o.1
    shown-value E e us b (negation t) o h = ap opposite (shown-value E e us b t o (λ c u x. h c u (under-not x)))
    shown-value E e us b (pair j t u) o h =
        ap₂ (together j) (shown-value E e us b t o.0 (λ c v x. h c v (on-left x))) (shown-value E e us b u o.1 (λ c v x. h c v (on-right x)))
    shown-value E e us b (slot c t) o h = h c t (itself refl refl)

  -- ---- a network's trees
  pub grown-value : (E : Env) (e : Event) (us : List Event) (b : ℕ) (held : ℕ → Tree) (f : Formula) → Plain choose b f
      → HoldsIn (λ m. E (e ∷ us) m ≡ tree_value e us (held m)) f → value E (e ∷ us) f ≡ tree_value e us (grown held f)
  grown-value E e us b held (leaf (Const v)) p h = refl
  grown-value E e us b held (leaf (Prop i)) p h = refl
  grown-value E e us b held (leaf (Hold m)) p h = h
  grown-value E e us b held (one Not f) p h = ap opposite (grown-value E e us b held f p h)
  grown-value E e us b held (one Next f) p h = value-free choose E never us f p.0
  grown-value E e us b held (two (Joined j) f g) p h = ap₂ (together j) (grown-value E e us b held f p.0 h.0) (grown-value E e us b held g p.1 h.1)
  grown-value E e us b held (one (Rattle.kinds.specs.declared.Unary.TheVariants.Ever _) f) p h = elim p [ ]
  grown-value E e us b held (two Rattle.kinds.specs.declared.Binary.TheVariants.Until f g) p h = elim p [ ]

  module _ (choice : Choice choose) (slots : List Slot) (ok : AllOk choose choice (length slots) 0 slots) where
    pub slot_ok : (m : ℕ) → m < length slots → SlotOk choose choice (length slots) m (slot_at slots m)
    slot_ok m l = each-slot (SlotOk choose choice (length slots)) slots ok m l

    pub tree-ok : (most m : ℕ) → m < length slots → length slots ≤ most + m → (b : ℕ) → OkTree b (tree_at slots most m)
    unfolding tree_at
    tree-ok zero m l r b = absurd (omega arith)
    tree-ok (suc most) m l r b =
        let s = slot_at slots m in
        let o = slot_ok m l in
        slot-on-ok b s.board (grown (tree_at slots most) s.formula)
        (grown-ok s.board (tree_at slots most) s.formula o.plain (holds-map _ _ (λ n q. (let a = q.0 in tree-ok most n q.1 (omega arith))) s.formula o.holds))

    -- a slot's value is that of its tree
    pub tree-value : (E : Env) → Models E slots → (e : Event) (us : List Event) (most m : ℕ) → m < length slots → length slots ≤ most + m
        → E (e ∷ us) m ≡ tree_value e us (tree_at slots most m)
    unfolding tree_at
    tree-value E models e us zero m l r = absurd (omega arith)
    tree-value E models e us (suc most) m l r =
        let s = slot_at slots m in
        let o = slot_ok m l in
        models m l (e ∷ us)
        ∙ grown-value E e us s.board (tree_at slots most) s.formula o.plain
        (holds-map _ _ (λ n q. (let a = q.0 in tree-value E models e us most n q.1 (omega arith))) s.formula o.holds)
        ∙ sym (slot-on-value e us s.board (grown (tree_at slots most) s.formula))
