-- Laying with a register is laying to trees (`carries-laid`): what stands in the slot, expanded, is the laid tree; the register is in
-- order, holds earlier entries, and has nothing new that does not stand in that tree. Assumes nothing.
use mathlib.Core.Path.{◌≡◌, refl, sym, subst}
use mathlib.Core.Bool.{Bool, true, false}
use mathlib.Core.List.{List, [], ◌∷◌, ◌++◌}
use mathlib.Core.Logic.{◌⊎◌, ⊎_elim}
use mathlib.Core.Option.{Option, none, some}
use Prim.Native.Nat.{ℕ, ◌+◌, ◌<◌, ◌≤◌}
use native.Mathlib.Nat.{eq-or-lt_of_le}
use native.Mathlib.Omega.{arith}
use native.Mathlib.Decide.{dec_lt}
use lib.ListN.{length, length-append}
use lib.Dec.{eqb}
use Rattle.lists.specs.Tests.{pick}
use Rattle.kinds.specs.declared.Leaf.TheVariants.{Const, Prop, Hold}
use Rattle.kinds.specs.declared.Unary.TheVariants.{Not, Next, Ever}
use Rattle.kinds.specs.declared.Join.{Join}
use Rattle.kinds.specs.declared.Binary.TheVariants.{Joined, Until}
use Rattle.ltl.specs.Formula.{Formula, leaf, one, two, join}
use Rattle.network.specs.Layout.{Slot, slot_at}
use Rattle.network.proofs.Laying.{HoldsIn}
use Rattle.network.proofs.Holding.{holds-map}
use Rattle.merging.specs.Merge.{Tree, stays, negation, pair, slot, slot_on}
use Rattle.merging.specs.Lays.{looked_tree, laid_tree}
use Rattle.registers.specs.Register.{Noted, enter, noted, looked_noted, laid_noted}
use Rattle.registers.proofs.Entering.{Enters, known, new, enters, apart_none, apart-new, slot-before, slot-last}
use Rattle.registers.proofs.Growing.{Longer, longer-same, longer-on}
use Rattle.registers.proofs.Expanding.{Staying, Grows, grows-whole, grows-not, grows-pair, grows-entry, grows-longer, grows-below, Registered, inside-it, inside-slot, inside-not, inside-left, inside-right, Occurs, occurs-longer}

-- a part laid with a register `reg` at hand, and the tree that it is
pub record Carries (reg : List Slot) (t : Tree) (x : Noted) : Type 0 where
  pub longer : Longer reg x.register
  pub registered : Registered x.register
  pub tree : Grows x.register x.here t
  pub seen : (k : ℕ) → length reg ≤ k → k < length x.register → Occurs x.register k t

-- one more entry keeps a register in order
pub registered-new : (s : Slot) (reg : List Slot) → ((k : ℕ) → k < length reg → slot_at reg k ≡ s → ⊥) → HoldsIn (λ m. m < length reg) s.formula → Registered reg → Registered (reg ++ (s ∷ []))
registered-new s reg h below r =
    record {
      apart = apart-new s reg h r.apart;
      earlier = λ k l. (let n = length-append reg (s ∷ []) in
          ⊎_elim
          (λ e. subst (λ (i : ℕ). HoldsIn (λ m. m < i) (slot_at (reg ++ (s ∷ [])) i).formula) (sym e) (subst (λ (x : Slot). HoldsIn (λ m. m < length reg) x.formula) (sym (slot-last reg s)) below))
          (λ q. subst (λ (x : Slot). HoldsIn (λ m. m < k) x.formula) (sym (slot-before reg (s ∷ []) k q)) (r.earlier k q)) (split k (omega arith)));
    }
  where
    split : (k : ℕ) → k ≤ length reg → (k ≡ length reg) ⊎ (k < length reg)
    split k l = eq-or-lt_of_le l

pub registered-none : Registered []
registered-none = record { apart = apart_none; earlier = λ k l. absurd (omega arith) }

-- ---- a part that becomes a slot
pub carries-enter : (reg r : List Slot) (b : ℕ) (f : Formula) (t : Tree) → Carries reg t (record { here = f; register = r }) → Carries reg (slot b t) (enter (record { board = b; formula = f }) r)
carries-enter reg r b f t c = go (enters (record { board = b; formula = f }) r)
  where
    go : {k : ℕ} {after : List Slot} → Enters (record { board = b; formula = f }) r k after → Carries reg (slot b t) (record { here = leaf (Hold k); register = after })
    go (known l e) =
        record {
          longer = c.longer;
          registered = c.registered;
          tree = grows-entry l e c.tree;
          seen = λ k m n. occurs-longer r r (longer-same r) k t (slot b t) (λ d v i. inside-slot i) (c.seen k m n);
        }
    go (new h) =
        let s : Slot = record { board = b; formula = f } in
        let after = r ++ (s ∷ []) in
        let wider : Longer r after = record { more = s ∷ []; is = refl } in
        let n = length-append r (s ∷ []) in
        let tree : Grows after (leaf (Hold (length r))) (slot b t) = grows-entry {k = length r} {b = b} (omega arith) (slot-last r s) (grows-longer r after wider c.tree) in
        record {
          longer = longer-on reg r after c.longer wider;
          registered = registered-new s r h (grows-below r c.tree) c.registered;
          tree = tree;
          seen = λ k m l. ⊎_elim (λ e. record { board = b; body = t; tree = subst (λ (i : ℕ). Grows after (leaf (Hold i)) (slot b t)) (sym e) tree; inside = inside-it refl refl })
              (λ q. occurs-longer r after wider k t (slot b t) (λ d v i. inside-slot i) (c.seen k m q)) (split k (omega arith));
        }
      where
        split : (k : ℕ) → k ≤ length r → (k ≡ length r) ⊎ (k < length r)
        split k l = eq-or-lt_of_le l

noted-whole : (b : ℕ) (f : Formula) (reg : List Slot) → Staying f → noted b f reg ≡ enter (record { board = b; formula = f }) reg
noted-whole b (leaf (Const v)) reg s = refl
noted-whole b (leaf (Prop i)) reg s = refl
noted-whole b (leaf (Hold k)) reg s = absurd s
noted-whole b (one o f) reg s = refl
noted-whole b (two o f g) reg s = refl

pub carries-noted : (reg r : List Slot) (b : ℕ) (f : Formula) (t : Tree) → Carries reg t (record { here = f; register = r }) → Carries reg (slot_on b t) (noted b f r)
carries-noted reg r b f t c = go c.tree c
  where
    go : {f : Formula} {t : Tree} → Grows r f t → Carries reg t (record { here = f; register = r }) → Carries reg (slot_on b t) (noted b f r)
    go (grows-whole {f} s) c = subst (λ (x : Noted). Carries reg (slot b (stays f)) x) (sym (noted-whole b f r s)) (carries-enter reg r b f (stays f) c)
    go (grows-not {f} {t} g) c = carries-enter reg r b (one Not f) (negation t) c
    go (grows-pair {j} {f} {g} {t} {u} x y) c = carries-enter reg r b (two (Joined j) f g) (pair j t u) c
    go (grows-entry l e g) c = c

-- ---- laying
pub carries-looked : (o : Option ℕ) (b : ℕ) (reg : List Slot) (lay : ℕ → List Slot → Noted) (tree : ℕ → Tree) → ((c : ℕ) → Carries reg (tree c) (lay c reg))
    → Carries reg (looked_tree o b tree) (looked_noted o b reg lay)
unfolding looked_noted looked_tree pick
carries-looked none b reg lay tree h = h b
carries-looked (some c) b reg lay tree h = go (eqb c b)
  where
    go : (t : Bool) → Carries reg (pick t (tree b) (slot_on c (tree c))) (pick t (lay b reg) (noted c (lay c reg).here (lay c reg).register))
    go true = h b
    go false = carries-noted reg (lay c reg).register c (lay c reg).here (tree c) (h c)

-- nothing is entered
carries-still : (reg : List Slot) (f : Formula) (t : Tree) → Registered reg → Grows reg f t → Carries reg t (record { here = f; register = reg })
carries-still reg f t r g = record { longer = longer-same reg; registered = r; tree = g; seen = λ k l m. absurd (omega arith) }

carries-not : (reg : List Slot) (t : Tree) (x : Noted) → Carries reg t x → Carries reg (negation t) (record { here = one Not x.here; register = x.register })
carries-not reg t x c =
    record {
      longer = c.longer;
      registered = c.registered;
      tree = grows-not c.tree;
      seen = λ k l m. occurs-longer x.register x.register (longer-same x.register) k t (negation t) (λ b v i. inside-not i) (c.seen k l m);
    }

carries-pair : (reg : List Slot) (j : Join) (t u : Tree) (x y : Noted) → Carries reg t x → Carries x.register u y → Carries reg (pair j t u) (record { here = join j x.here y.here; register = y.register })
carries-pair reg j t u x y c d =
    record {
      longer = longer-on reg x.register y.register c.longer d.longer;
      registered = d.registered;
      tree = grows-pair (grows-longer x.register y.register d.longer c.tree) d.tree;
      seen = λ k l m. split k l m (dec_lt k (length x.register));
    }
  where
    split : (k : ℕ) → length reg ≤ k → k < length y.register → Dec (k < length x.register) → Occurs y.register k (pair j t u)
    split k l m (yes q) = occurs-longer x.register y.register d.longer k t (pair j t u) (λ b v i. inside-left i) (c.seen k l q)
    split k l m (no q) = occurs-longer y.register y.register (longer-same y.register) k u (pair j t u) (λ b v i. inside-right i) (d.seen k (omega arith) m)

-- the place holders' entries, expanded, are the trees
abbrev pub Stood : (ℕ → ℕ) → (ℕ → Tree) → List Slot → Formula → Type 0
Stood held trees reg f = HoldsIn (λ m. Grows reg (leaf (Hold (held m))) (trees m)) f

module _ (choose : Formula → Option ℕ) (held : ℕ → ℕ) (trees : ℕ → Tree) where
  pub carries-laid : (f : Formula) (b : ℕ) (reg : List Slot) → Registered reg → Stood held trees reg f → Carries reg (laid_tree choose trees f b) (laid_noted choose held f b reg)
  unfolding laid_noted laid_tree
  carries-laid (leaf (Const v)) b reg r h = carries-still reg (leaf (Const v)) (stays (leaf (Const v))) r (grows-whole tt)
  carries-laid (leaf (Prop i)) b reg r h = carries-still reg (leaf (Prop i)) (stays (leaf (Prop i))) r (grows-whole tt)
  carries-laid (leaf (Hold m)) b reg r h = carries-still reg (leaf (Hold (held m))) (trees m) r h
  carries-laid (one Not f) b reg r h =
      carries-not reg (looked_tree (choose f) b (laid_tree choose trees f)) (looked_noted (choose f) b reg (laid_noted choose held f))
      (carries-looked (choose f) b reg (laid_noted choose held f) (laid_tree choose trees f) (λ c. carries-laid f c reg r h))
  carries-laid (one Next f) b reg r h = carries-still reg (one Next f) (stays (one Next f)) r (grows-whole tt)
  carries-laid (one (Ever j) f) b reg r h = carries-still reg (one (Ever j) f) (stays (one (Ever j) f)) r (grows-whole tt)
  carries-laid (two (Joined j) f g) b reg r h =
      let x = looked_noted (choose f) b reg (laid_noted choose held f) in
      let c = carries-looked (choose f) b reg (laid_noted choose held f) (laid_tree choose trees f) (λ c. carries-laid f c reg r h.0) in
      let s = holds-map _ _ (λ m q. grows-longer reg x.register c.longer q) g h.1 in
      carries-pair reg j (looked_tree (choose f) b (laid_tree choose trees f)) (looked_tree (choose g) b (laid_tree choose trees g)) x (looked_noted (choose g) b x.register (laid_noted choose held g)) c
      (carries-looked (choose g) b x.register (laid_noted choose held g) (laid_tree choose trees g) (λ d. carries-laid g d x.register c.registered s))
  carries-laid (two Until f g) b reg r h = carries-still reg (two Until f g) (stays (two Until f g)) r (grows-whole tt)
