-- Entries expanded to trees: `Grows reg f t` says that f, with the entries that its place holders stand for, is the tree t. There is
-- one such tree (`grows_same`), one formula for a tree where each slot is entered once (`grows_one`), and a longer register changes
-- nothing (`grows-longer`). An entry holds earlier ones alone (`Registered`), so a tree is not deeper than the register is long
-- (`grows-depth`). Assumes nothing.
use mathlib.Core.Path.{◌≡◌, refl, sym, ap, ap₂, ◌∙◌, subst}
use mathlib.Core.List.{List}
use Prim.Native.Nat.{ℕ, suc, ◌<◌, ◌≤◌, max}
use native.Mathlib.Omega.{arith}
use lib.ListN.{length}
use Rattle.kinds.specs.declared.Leaf.TheVariants.{Const, Prop, Hold}
use Rattle.kinds.specs.declared.Unary.TheVariants.{Not, Next, Ever}
use Rattle.kinds.specs.declared.Join.{Join}
use Rattle.kinds.specs.declared.Binary.TheVariants.{Joined, Until}
use Rattle.ltl.specs.Formula.{Formula, leaf, one, two}
use Rattle.network.specs.Layout.{Slot, slot_at}
use Rattle.network.proofs.Laying.{HoldsIn}
use Rattle.merging.specs.Merge.{Tree, stays, negation, pair, slot}
use Rattle.registers.proofs.Entering.{Apart, slot-before}
use Rattle.registers.proofs.Growing.{Longer, longer-length}

-- a node below which nothing is held
abbrev pub Staying : Formula → Type 0
Staying (leaf (Const v)) = Unit {0}
Staying (leaf (Prop i)) = Unit {0}
Staying (leaf (Hold m)) = ⊥
Staying (one Not f) = ⊥
Staying (one Next f) = Unit {0}
Staying (one (Ever j) f) = Unit {0}
Staying (two (Joined j) f g) = ⊥
Staying (two Until f g) = Unit {0}

-- a formula with the entries that its place holders stand for, and the tree that it is
pub data Grows (reg : List Slot) : Formula → Tree → Type 0 where
  grows-whole : {f : Formula} → Staying f → Grows reg f (stays f)
  grows-not : {f : Formula} {t : Tree} → Grows reg f t → Grows reg (one Not f) (negation t)
  grows-pair : {j : Join} {f g : Formula} {t u : Tree} → Grows reg f t → Grows reg g u → Grows reg (two (Joined j) f g) (pair j t u)
  grows-entry : {k b : ℕ} {f : Formula} {t : Tree} → k < length reg → slot_at reg k ≡ record { board = b; formula = f } → Grows reg f t → Grows reg (leaf (Hold k)) (slot b t)

-- ---- one tree, and one formula
pub grows_same : (reg : List Slot) {f : Formula} {t u : Tree} → Grows reg f t → Grows reg f u → t ≡ u
grows_same reg (grows-whole s) (grows-whole r) = refl
grows_same reg (grows-whole s) (grows-not h) = absurd s
grows_same reg (grows-whole s) (grows-pair h i) = absurd s
grows_same reg (grows-whole s) (grows-entry l e h) = absurd s
grows_same reg (grows-not g) (grows-whole s) = absurd s
grows_same reg (grows-not g) (grows-not h) = ap negation (grows_same reg g h)
grows_same reg (grows-pair g i) (grows-whole s) = absurd s
grows_same reg (grows-pair {j = j} g i) (grows-pair h k) = ap₂ (pair j) (grows_same reg g h) (grows_same reg i k)
grows_same reg (grows-entry l e g) (grows-whole s) = absurd s
grows_same reg (grows-entry {b = b} {f = f} {t = t} l e g) (grows-entry {b = c} {f = f'} {t = u} m d h) =
    let q = sym e ∙ d in
    ap₂ slot (ap (λ (s : Slot). s.board) q) (grows_same reg g (subst (λ (x : Formula). Grows reg x u) (sym (ap (λ (s : Slot). s.formula) q)) h))

pub grows_one : (reg : List Slot) → Apart reg → {f g : Formula} {t : Tree} → Grows reg f t → Grows reg g t → f ≡ g
grows_one reg a (grows-whole s) (grows-whole r) = refl
grows_one reg a (grows-not g) (grows-not h) = ap (one Not) (grows_one reg a g h)
grows_one reg a (grows-pair {j = j} g i) (grows-pair h k) = ap₂ (two (Joined j)) (grows_one reg a g h) (grows_one reg a i k)
grows_one reg a (grows-entry {k = k} {b = b} l e g) (grows-entry {k = n} m d h) =
    let q = grows_one reg a g h in
    let r : slot_at reg k ≡ slot_at reg n = e ∙ ap (λ (x : Formula). record { board = b; formula = x }) q ∙ sym d in
    ap (λ (x : ℕ). leaf (Hold x)) (a k n l m r)

-- ---- a longer register
pub grows-longer : (reg after : List Slot) → Longer reg after → {f : Formula} {t : Tree} → Grows reg f t → Grows after f t
grows-longer reg after p (grows-whole s) = grows-whole s
grows-longer reg after p (grows-not g) = grows-not (grows-longer reg after p g)
grows-longer reg after p (grows-pair g h) = grows-pair (grows-longer reg after p g) (grows-longer reg after p h)
grows-longer reg after p (grows-entry {k = k} l e g) =
    let n = longer-length reg after p in
    grows-entry {k = k} (omega arith) (ap (λ (x : List Slot). slot_at x k) p.is ∙ slot-before reg p.more k l ∙ e) (grows-longer reg after p g)

-- what it holds is there
pub grows-below : (reg : List Slot) {f : Formula} {t : Tree} → Grows reg f t → HoldsIn (λ m. m < length reg) f
grows-below reg (grows-whole {f} s) = go f s
  where
    go : (f : Formula) → Staying f → HoldsIn (λ m. m < length reg) f
    go (leaf (Const v)) s = tt
    go (leaf (Prop i)) s = tt
    go (one Next f) s = tt
    go (one (Ever j) f) s = tt
    go (two Until f g) s = tt
    go (leaf (Hold _)) s = elim s [ ]
    go (one Not f) s = elim s [ ]
    go (two (Joined _) f g) s = elim s [ ]
grows-below reg (grows-not g) = grows-below reg g
grows-below reg (grows-pair g h) = (grows-below reg g, grows-below reg h)
grows-below reg (grows-entry l e g) = l

-- ---- a register in order
-- each slot is entered once, and holds earlier entries alone
pub record Registered (reg : List Slot) : Type 0 where
  pub apart : Apart reg
  pub earlier : (k : ℕ) → k < length reg → HoldsIn (λ m. m < k) (slot_at reg k).formula

-- how many slots stand one below the other
abbrev pub depth : Tree → ℕ
depth (stays f) = 0
depth (negation t) = depth t
depth (pair j t u) = max (depth t) (depth u)
depth (slot b t) = suc (depth t)

pub grows-depth : (reg : List Slot) → Registered reg → (n : ℕ) {f : Formula} {t : Tree} → Grows reg f t → HoldsIn (λ m. m < n) f → depth t ≤ n
grows-depth reg r n (grows-whole s) h = omega arith
grows-depth reg r n (grows-not g) h = grows-depth reg r n g h
grows-depth reg r n (grows-pair g i) h = let p = grows-depth reg r n g h.0 in let q = grows-depth reg r n i h.1 in omega arith
grows-depth reg r n (grows-entry {k = k} l e g) h =
    let p = grows-depth reg r k g (subst (λ (s : Slot). HoldsIn (λ m. m < k) s.formula) e (r.earlier k l)) in omega arith

-- ---- slots in a tree, however deep
-- the slot on board b with body t stands in the tree
pub data Inside (b : ℕ) (t : Tree) : Tree → Type 0 where
  inside-it : {c : ℕ} {u : Tree} → b ≡ c → t ≡ u → Inside b t (slot c u)
  inside-slot : {c : ℕ} {u : Tree} → Inside b t u → Inside b t (slot c u)
  inside-not : {u : Tree} → Inside b t u → Inside b t (negation u)
  inside-left : {j : Join} {u v : Tree} → Inside b t u → Inside b t (pair j u v)
  inside-right : {j : Join} {u v : Tree} → Inside b t v → Inside b t (pair j u v)

pub inside_on : {b c : ℕ} {t u v : Tree} → Inside b t u → Inside c u v → Inside b t v
inside_on {b} {c} {t} {u} p (inside-it d e) = inside-slot (subst (λ (x : Tree). Inside b t x) e p)
inside_on p (inside-slot q) = inside-slot (inside_on p q)
inside_on p (inside-not q) = inside-not (inside_on p q)
inside_on p (inside-left q) = inside-left (inside_on p q)
inside_on p (inside-right q) = inside-right (inside_on p q)

-- entry k stands somewhere in a tree
pub record Occurs (reg : List Slot) (k : ℕ) (whole : Tree) : Type 0 where
  pub board : ℕ
  pub body : Tree
  pub tree : Grows reg (leaf (Hold k)) (slot board body)
  pub inside : Inside board body whole

pub occurs-longer : (reg after : List Slot) → Longer reg after → (k : ℕ) (t u : Tree) → ((b : ℕ) (v : Tree) → Inside b v t → Inside b v u) → Occurs reg k t → Occurs after k u
occurs-longer reg after p k t u h s =
    record { board = s.board; body = s.body; tree = grows-longer reg after p s.tree; inside = h s.board s.body s.inside }
