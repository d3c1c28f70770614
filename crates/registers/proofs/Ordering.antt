-- The order of the entries is that of the slots in the tree (`row-order`), so the network from a register is the numbered tree
-- (`network-numbered`), where every entry stands in the root's tree. Assumes nothing.
use mathlib.Core.Path.{◌≡◌, refl, sym, ap, ap₂, subst}
use mathlib.Core.Bool.{Bool, true, false}
use mathlib.Core.List.{List, [], ◌∷◌, ◌++◌, map}
use mathlib.Core.Logic.{◌⊎◌, ⊎_elim}
use Prim.Native.Nat.{ℕ, zero, suc, ◌+◌, ◌<◌}
use native.Mathlib.Omega.{arith}
use lib.ListN.{length}
use lib.Dec.{eqb}
use borrow.Author.Tests.{eqb-true}
use Rattle.lists.specs.Tests.{pick}
use Rattle.kinds.specs.declared.Leaf.TheVariants.{Const, Prop, Hold}
use Rattle.kinds.specs.declared.Unary.TheVariants.{Not, Next, Ever}
use Rattle.kinds.specs.declared.Binary.TheVariants.{Joined, Until}
use Rattle.ltl.specs.Formula.{Formula, leaf, one, two, join}
use Rattle.network.specs.Layout.{Slot, slot_at}
use Rattle.merging.specs.Merge.{Tree, negation, pair, slot, Met, met, longest, firsts, level, levels, ordered, place, shown, slot_of, numbered}
use Rattle.merging.proofs.Among.{Among, here, there, In, split-among, longest-met, met-range}
use Rattle.registers.specs.Numbers.{met_in, chain_in, on_level, by_level, order_in, place_in, number_by, renumbered, renumbered_slot, network_by, network_from}
use Rattle.registers.proofs.Entering.{Apart}
use Rattle.registers.proofs.Expanding.{Staying, Grows, grows-whole, grows-not, grows-pair, grows-entry, grows_same, grows-below, Registered, depth, grows-depth, Occurs}
use Rattle.registers.proofs.Members.{OneOf, one-here, one-there, one_none}
use Rattle.registers.proofs.Meeting.{RowOf, row-none, row_more, row-both, row-met, entry-test, slot-board, slot-body}
use Rattle.registers.proofs.Chaining.{grows-body, inside-met, chain-longest}

-- ---- levels
module _ (reg : List Slot) (chain : ℕ → ℕ) (all : List Met) (agree : (k b : ℕ) (t : Tree) → Grows reg (leaf (Hold k)) (slot b t) → chain k ≡ longest b t all) where
  row-level : (n : ℕ) {ks : List ℕ} {ms : List Met} → RowOf reg ks ms → RowOf reg (on_level chain n ks) (level all n ms)
  unfolding on_level level pick
  row-level n row-none = row-none
  row-level n (row_more {k = k} {m = m} {ks = ks} {ms = ms} g r) =
      subst (λ (b : Bool). RowOf reg (pick (eqb (chain k) n) (k ∷ on_level chain n ks) (on_level chain n ks)) (pick b (m ∷ level all n ms) (level all n ms)))
      (ap (λ (x : ℕ). eqb x n) (agree k m.board m.body g)) (go (eqb (chain k) n) (row-level n r))
    where
      go : (b : Bool) → RowOf reg (on_level chain n ks) (level all n ms) → RowOf reg (pick b (k ∷ on_level chain n ks) (on_level chain n ks)) (pick b (m ∷ level all n ms) (level all n ms))
      go true x = row_more g x
      go false x = x

  row-levels : (n more : ℕ) {ks : List ℕ} {ms : List Met} → RowOf reg ks ms → RowOf reg (by_level chain ks n more) (levels all ms n more)
  unfolding by_level levels
  row-levels n zero r = row-none
  row-levels n (suc more) r = row-both (row-level n r) (row-levels (n + 1) more r)

-- levels that no entry has are empty
level-none : (chain : ℕ → ℕ) (n : ℕ) (ks : List ℕ) → ((k : ℕ) → OneOf k ks → chain k < n) → on_level chain n ks ≡ []
unfolding on_level pick
level-none chain n [] h = refl
level-none chain n (k ∷ ks) h = go (eqb (chain k) n) refl (level-none chain n ks (λ m a. h m (one-there a)))
  where
    go : (b : Bool) → eqb (chain k) n ≡ b → on_level chain n ks ≡ [] → pick b (k ∷ on_level chain n ks) (on_level chain n ks) ≡ []
    go true e i = let q = eqb-true (chain k) n e in let l = h k (one-here refl) in absurd (omega arith)
    go false e i = i

levels-none : (chain : ℕ → ℕ) (ks : List ℕ) (n more : ℕ) → ((k : ℕ) → OneOf k ks → chain k < n) → by_level chain ks n more ≡ []
unfolding by_level
levels-none chain ks n zero h = refl
levels-none chain ks n (suc more) h =
    ap₂ ◌++◌ (level-none chain n ks h) (levels-none chain ks (n + 1) more (λ k a. (let l = h k a in omega arith)))

-- so it does not matter how many are looked at
pub levels-enough : (chain : ℕ → ℕ) (ks : List ℕ) (n a c : ℕ) → ((k : ℕ) → OneOf k ks → chain k < n + a) → ((k : ℕ) → OneOf k ks → chain k < n + c) → by_level chain ks n a ≡ by_level chain ks n c
unfolding by_level
levels-enough chain ks n zero c h g = sym (levels-none chain ks n c (λ k a. (let l = h k a in omega arith)))
levels-enough chain ks n (suc a) zero h g = levels-none chain ks n (suc a) (λ k x. (let l = g k x in omega arith))
levels-enough chain ks n (suc a) (suc c) h g =
    ap (λ (x : List ℕ). on_level chain n ks ++ x) (levels-enough chain ks (n + 1) a c (λ k x. (let l = h k x in omega arith)) (λ k x. (let l = g k x in omega arith)))

-- ---- rows
-- an entry of a row has a slot
pub row_has : (reg : List Slot) {ks : List ℕ} {ms : List Met} → RowOf reg ks ms → (k : ℕ) → OneOf k ks → (n b : ℕ) × (t : Tree) × Grows reg (leaf (Hold k)) (slot b t) × Among n b t ms
row_has reg row-none k a = absurd (one_none k a)
row_has reg (row_more {m = m} g r) k (one-here e) = (m.chain, m.board, m.body, subst (λ (x : ℕ). Grows reg (leaf (Hold x)) (slot m.board m.body)) (sym e) g, here refl refl refl)
row_has reg (row_more g r) k (one-there a) = let x = row_has reg r k a in (x.0, x.1, x.2, x.3, there x.4)

-- no chain is longer than the tree is deep
pub met-depth : (k n b : ℕ) (t r : Tree) → Among n b t (met k r) → n < k + depth r
met-depth k n b t (negation r) a = met-depth k n b t r a
met-depth k n b t (pair j r s) a =
    ⊎_elim (λ x. (let l = met-depth k n b t r x in omega arith)) (λ x. (let l = met-depth k n b t s x in omega arith)) (split-among n b t (met k r) (met k s) a)
met-depth k n b t (slot d r) (here p q s) = omega arith
met-depth k n b t (slot d r) (there a) = let l = met-depth (k + 1) n b t r a in omega arith
met-depth k n b t (Rattle.merging.specs.Merge.stays _) a = elim a [ ]

pub row-place : (reg : List Slot) → Apart reg → {ks : List ℕ} {ms : List Met} → RowOf reg ks ms → (k b : ℕ) (t : Tree) → Grows reg (leaf (Hold k)) (slot b t) → place_in k ks ≡ place b t ms
unfolding place_in place
row-place reg apart row-none k b t g = refl
row-place reg apart (row_more {k = n} {m = m} h r) k b t g =
    ap₂ (λ (x : Bool) (y : ℕ). pick x 0 (suc y)) (entry-test reg apart k n b t m g h) (row-place reg apart r k b t g)

-- ---- what stands in a slot
renumbered-whole : (number : ℕ → ℕ) (f : Formula) → Staying f → renumbered number f ≡ f
renumbered-whole number (leaf (Const v)) s = refl
renumbered-whole number (leaf (Prop i)) s = refl
renumbered-whole number (leaf (Hold m)) s = absurd s
renumbered-whole number (one Not f) s = absurd s
renumbered-whole number (one Next f) s = refl
renumbered-whole number (one (Ever j) f) s = refl
renumbered-whole number (two (Joined j) f g) s = absurd s
renumbered-whole number (two Until f g) s = refl

module _ (reg : List Slot) (apart : Apart reg) (order : List ℕ) (row : List Met) (rows : RowOf reg order row) where
  pub renumbered-shown : {f : Formula} {t : Tree} → Grows reg f t → renumbered (number_by order) f ≡ shown row t
  renumbered-shown (grows-whole {f} s) = renumbered-whole (number_by order) f s
  renumbered-shown (grows-not g) = ap (one Not) (renumbered-shown g)
  renumbered-shown (grows-pair {j = j} g h) = ap₂ (join j) (renumbered-shown g) (renumbered-shown h)
  renumbered-shown (grows-entry {k = k} {b = b} {f = f} {t = t} l e g) =
      ap (λ (x : ℕ). leaf (Hold (suc x))) (row-place reg apart rows k b t (grows-entry {k = k} {b = b} {f = f} {t = t} l e g))

  slots-shown : {ks : List ℕ} {ms : List Met} → RowOf reg ks ms → map (λ k. renumbered_slot (number_by order) (slot_at reg k)) ks ≡ map (slot_of row) ms
  slots-shown row-none = refl
  slots-shown (row_more {k = k} {m = m} g r) = ap₂ ◌∷◌ same (slots-shown r)
    where
      same : renumbered_slot (number_by order) (slot_at reg k) ≡ slot_of row m
      same =
          let y = grows-body reg k m.board m.body g in
          let p = y.1 in
          let q = renumbered-shown y.2 in
          λ i. record { board = p i; formula = q i }

-- ---- the whole
module _ (reg : List Slot) (registered : Registered reg) (root : Formula) (whole : Tree) (tree : Grows reg root whole)
    (all : (k : ℕ) → k < length reg → Occurs reg k whole) where
  -- every entry is met
  pub entry-met : (k b : ℕ) (t : Tree) → Grows reg (leaf (Hold k)) (slot b t) → In b t (met 1 whole)
  entry-met k b t g =
      let s = all k (grows-body reg k b t g).0 in
      let q = grows_same reg g s.tree in
      let i = inside-met 1 s.board s.body whole s.inside in
      (i.0, subst (λ (x : Tree). Among i.0 b x (met 1 whole)) (sym (slot-body b s.board t s.body q)) (subst (λ (x : ℕ). Among i.0 x s.body (met 1 whole)) (sym (slot-board b s.board t s.body q)) i.1))

  pub row-order : RowOf reg (order_in root reg) (ordered whole)
  unfolding order_in ordered
  row-order =
      let Met-all = met 1 whole in
      let fs = firsts [] Met-all in
      let ks = met_in root reg in
      let chain = chain_in root reg in
      let agree = chain-longest reg registered root whole tree all in
      let r = row-met reg registered root whole tree in
      subst (λ (x : List ℕ). RowOf reg x (levels Met-all fs 1 (length Met-all)))
      (levels-enough chain ks 1 (length Met-all) (length reg)
      (λ k a. (let x = row_has reg r k a in
      let i = entry-met k x.1 x.2 x.3 in
      let l = met-range 1 (longest x.1 x.2 Met-all) x.1 x.2 whole (longest-met i.0 x.1 x.2 Met-all i.1) in
      let e = agree k x.1 x.2 x.3 in
      let h = l.1 in
      omega arith))
      (λ k a. (let x = row_has reg r k a in
      let i = entry-met k x.1 x.2 x.3 in
      let l = met-depth 1 (longest x.1 x.2 Met-all) x.1 x.2 whole (longest-met i.0 x.1 x.2 Met-all i.1) in
      let d = grows-depth reg registered (length reg) tree (grows-below reg tree) in
      let e = agree k x.1 x.2 x.3 in
      omega arith)))
      (row-levels reg chain Met-all agree 1 (length Met-all) r)

  pub network-numbered : (b : ℕ) → network_from b root reg ≡ numbered b whole
  unfolding network_by numbered
  network-numbered b =
      let order = order_in root reg in
      let row = ordered whole in
      let first = renumbered-shown reg registered.apart order row row-order tree in
      ap₂ ◌∷◌ (λ i. record { board = b; formula = first i }) (slots-shown reg registered.apart order row row-order row-order)
