-- The chains of entries are those of their slots: `chain-longest`. Where every entry stands in the root's tree, an entry's number is
-- the longest chain of holders by which its slot is met. Assumes nothing.
use mathlib.Core.Path.{◌≡◌, refl, sym, ap, ap₂, subst}
use mathlib.Core.List.{List, [], ◌∷◌}
use mathlib.Core.Logic.{◌⊎◌, ⊎_elim}
use Prim.Native.Nat.{ℕ, zero, suc, ◌+◌, ◌<◌, ◌≤◌}
use native.Mathlib.Omega.{arith}
use lib.ListN.{length}
use Rattle.kinds.specs.declared.Leaf.TheVariants.{Const, Prop, Hold}
use Rattle.kinds.specs.declared.Unary.TheVariants.{Not, Next, Ever}
use Rattle.kinds.specs.declared.Binary.TheVariants.{Joined, Until}
use Rattle.ltl.specs.Formula.{Formula, leaf, one, two}
use Rattle.network.specs.Layout.{Slot, slot_at}
use Rattle.merging.specs.Merge.{Tree, negation, pair, slot, met, longest}
use Rattle.merging.proofs.Among.{Among, here, there, In, Holds, itself, under-not, on-left, on-right, among-left, among-right, split-among, none_in, longest-upper, longest-met, holds-met}
use Rattle.merging.proofs.Chains.{chain-above}
use Rattle.registers.specs.Relaying.{holds_of}
use Rattle.registers.specs.Numbers.{holds_at, raised, chains_down, chain_in}
use Rattle.registers.proofs.Expanding.{Staying, Grows, grows-whole, grows-not, grows-pair, grows-entry, grows_same, grows_one, Registered, Inside, inside-it, inside-slot, inside-not, inside-left, inside-right, Occurs}
use Rattle.registers.proofs.Members.{OneOf, one-here, one-there, one_left, one_right, one_split, one_none}
use Rattle.registers.proofs.Meeting.{hold-one, slot-board, slot-body}
use Rattle.registers.proofs.Raising.{raised-under, raised-has, down-rises, down-has}

-- ---- slots in trees
pub inside-met : (n b : ℕ) (t u : Tree) → Inside b t u → In b t (met n u)
inside-met n b t (slot c u) (inside-it p q) = (n, here refl p q)
inside-met n b t (slot c u) (inside-slot i) = let x = inside-met (n + 1) b t u i in (x.0, there x.1)
inside-met n b t (negation u) (inside-not i) = inside-met n b t u i
inside-met n b t (pair j u v) (inside-left i) = let x = inside-met n b t u i in (x.0, among-left (met n v) x.1)
inside-met n b t (pair j u v) (inside-right i) = let x = inside-met n b t v i in (x.0, among-right (met n u) x.1)
inside-met n b t (Rattle.merging.specs.Merge.stays _) x'' = elim x'' [ ]

-- what a formula holds, its tree holds
pub grows-holds : (reg : List Slot) {f : Formula} {u : Tree} → Grows reg f u → (m b : ℕ) (t : Tree) → OneOf m (holds_of f) → Grows reg (leaf (Hold m)) (slot b t) → Holds b t u
unfolding holds_of
grows-holds reg (grows-whole {f} s) m b t a g = absurd (none f s a)
  where
    none : (f : Formula) → Staying f → OneOf m (holds_of f) → ⊥
    none (leaf (Const v)) s a = one_none m a
    none (leaf (Prop i)) s a = one_none m a
    none (leaf (Hold k)) s a = s
    none (one Not f) s a = s
    none (one Next f) s a = one_none m a
    none (one (Ever j) f) s a = one_none m a
    none (two (Joined j) f g) s a = s
    none (two Until f g) s a = one_none m a
grows-holds reg (grows-not h) m b t a g = under-not (grows-holds reg h m b t a g)
grows-holds reg (grows-pair {f = f} {g = f'} h i) m b t a g =
    ⊎_elim (λ x. on-left (grows-holds reg h m b t x g)) (λ x. on-right (grows-holds reg i m b t x g)) (one_split m (holds_of f) (holds_of f') a)
grows-holds reg (grows-entry {k = k} {b = c} {f = f} {t = u} l e h) m b t a g = go a
  where
    go : OneOf m (k ∷ []) → Holds b t (slot c u)
    go (one-here q) =
        let s = grows_same reg g (subst (λ (x : ℕ). Grows reg (leaf (Hold x)) (slot c u)) (sym q) (grows-entry {k = k} {b = c} {f = f} {t = u} l e h)) in
        itself (slot-board b c t u s) (slot-body b c t u s)
    go (one-there x) = absurd (one_none m x)

-- the body of an entry
pub grows-body : (reg : List Slot) (k b : ℕ) (t : Tree) → Grows reg (leaf (Hold k)) (slot b t) → (k < length reg) × ((slot_at reg k).board ≡ b) × Grows reg (slot_at reg k).formula t
grows-body reg k b t (grows-entry {f = f} l e g) =
    (l, ap (λ (s : Slot). s.board) e, subst (λ (x : Formula). Grows reg x t) (sym (ap (λ (s : Slot). s.formula) e)) g)

module _ (reg : List Slot) (order : Registered reg) (root : Formula) (whole : Tree) (tree : Grows reg root whole)
    (all : (k : ℕ) → k < length reg → Occurs reg k whole) where
  -- ---- not less
  among-least : (chain : ℕ → ℕ) → ((i k : ℕ) → i < length reg → OneOf k (holds_at reg i) → chain i + 1 ≤ chain k)
      → (i : ℕ) {f : Formula} {u : Tree} → Grows reg f u → ((k : ℕ) → OneOf k (holds_of f) → i ≤ chain k)
      → (n k b : ℕ) (t : Tree) → Among n b t (met i u) → Grows reg (leaf (Hold k)) (slot b t) → n ≤ chain k
  unfolding holds_of
  among-least chain rise i (grows-whole s) h n k b t a g = absurd (none_in b t (n, a))
  among-least chain rise i (grows-not x) h n k b t a g = among-least chain rise i x h n k b t a g
  among-least chain rise i (grows-pair {f = f} {g = f'} {t = u} {u = v} x y) h n k b t a g =
      ⊎_elim (λ z. among-least chain rise i x (λ m o. h m (one_left (holds_of f') o)) n k b t z g) (λ z. among-least chain rise i y (λ m o. h m (one_right (holds_of f) o)) n k b t z g)
      (split-among n b t (met i u) (met i v) a)
  among-least chain rise i (grows-entry {k = m} {b = c} {f = f} {t = u} l e x) h n k b t (here p q r) g =
      let s = hold-one k m (grows_one reg order.apart (subst (λ (y : Tree). Grows reg (leaf (Hold k)) y) (ap₂ slot q r) g) (grows-entry {k = m} {b = c} {f = f} {t = u} l e x)) in
      let z = h m (one-here refl) in
      let w = ap chain s in
      omega arith
  among-least chain rise i (grows-entry {k = m} {b = c} {f = f} {t = u} l e x) h n k b t (there a) g =
      let z = h m (one-here refl) in
      among-least chain rise (i + 1) x
      (λ j o. (let y = rise m j l (subst (λ (s : Slot). OneOf j (holds_of s.formula)) (sym e) o) in omega arith)) n k b t a g

  -- ---- and not more
  -- no entry has more than its slot
  abbrev Under : (ℕ → ℕ) → Type 0
  Under chain = (m b : ℕ) (t : Tree) → Grows reg (leaf (Hold m)) (slot b t) → chain m ≤ longest b t (met 1 whole)

  under-down : (j : ℕ) (chain : ℕ → ℕ) → j ≤ length reg → Under chain → Under (chains_down reg j chain)
  unfolding chains_down
  under-down zero chain l h = h
  under-down (suc j) chain l h =
      under-down j (raised (chain j + 1) (holds_at reg j) chain) (omega arith)
      (λ m b t g. raised-under (chain j + 1) (holds_at reg j) chain m (longest b t (met 1 whole)) (h m b t g)
      (λ a. (let s = all j (omega arith) in
      let y = grows-body reg j s.board s.body s.tree in
      let i = inside-met 1 s.board s.body whole s.inside in
      let up = chain-above i.0 s.board b s.body t whole i.1 (grows-holds reg y.2 m b t a g) in
      let z = h j s.board s.body s.tree in
      omega arith)))

  under-start : Under (raised 1 (holds_of root) (λ m. 0))
  under-start m b t g =
      raised-under 1 (holds_of root) (λ m. 0) m (longest b t (met 1 whole)) (omega arith)
      (λ a. longest-upper 1 b t (met 1 whole) (holds-met 1 b t whole (grows-holds reg tree m b t a g)))

  pub chain-longest : (k b : ℕ) (t : Tree) → Grows reg (leaf (Hold k)) (slot b t) → chain_in root reg k ≡ longest b t (met 1 whole)
  unfolding chain_in
  chain-longest k b t g =
      let start = raised 1 (holds_of root) (λ m. 0) in
      let most = under-down (length reg) start (omega arith) under-start k b t g in
      let y = grows-body reg k b t g in
      let s = all k y.0 in
      let q = grows_same reg g s.tree in
      let i = inside-met 1 s.board s.body whole s.inside in
      let a = subst (λ (x : Tree). Among i.0 b x (met 1 whole)) (sym (slot-body b s.board t s.body q)) (subst (λ (x : ℕ). Among i.0 x s.body (met 1 whole)) (sym (slot-board b s.board t s.body q)) i.1) in
      let least = among-least (chains_down reg (length reg) start) (λ i k l o. down-rises reg order (length reg) start i k (omega arith) l o) 1 tree
      (λ m o. down-has reg order (length reg) start m 1 (raised-has 1 (holds_of root) (λ m. 0) m o)) (longest b t (met 1 whole)) k b t (longest-met i.0 b t (met 1 whole) a) g in
      omega arith
