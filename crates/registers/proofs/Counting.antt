-- The order of the entries has each once (`order-once`, `order_below`, `order-has`, `order-length`), holders before those that they hold
-- (`order-rises`), with chains from 1 to the number of entries (`chain-range`, `chain-rises`). So the network has a slot for the root and
-- one for each entry (`network-length`, `network-slot`), and as many nodes as they have (`network-size`). Assumes nothing.
use mathlib.Core.Path.{◌≡◌, refl, sym, ap, ap₂, ◌∙◌, subst}
use mathlib.Core.List.{List, [], ◌∷◌, map}
use mathlib.Core.Logic.{◌⊎◌, ⊎_elim}
use mathlib.Core.Option.{Option}
use Prim.Native.Nat.{ℕ, zero, suc, ◌+◌, ◌<◌, ◌≤◌}
use native.Mathlib.Omega.{arith}
use lib.ListN.{length, get_or, length-map}
use Rattle.kinds.specs.declared.Leaf.TheVariants.{Const, Prop, Hold}
use Rattle.kinds.specs.declared.Unary.TheVariants.{Not, Next, Ever}
use Rattle.kinds.specs.declared.Binary.TheVariants.{Joined, Until}
use Rattle.ltl.specs.Formula.{Formula, leaf, one, two, size}
use Rattle.ltl.specs.Progression.{unfolded}
use Rattle.network.specs.Layout.{Slot, slot_at, or_zero, load, close}
use Rattle.network.proofs.Owned.{Free, Clean}
use Rattle.network.proofs.Laying.{HoldsIn}
use Rattle.merging.specs.Merge.{Tree, slot, Met, met, longest, ordered, merged}
use Rattle.merging.proofs.Among.{Among, here, there, In, in-firsts, none_in, in-ordered, ordered-rises, longest-met, met-range}
use Rattle.merging.proofs.Counted.{Once, firsts-once, ordered-once}
use Rattle.registers.specs.Register.{Noted}
use Rattle.registers.specs.Relaying.{holds_of, load_noted, close_noted}
use Rattle.registers.specs.Numbers.{holds_at, met_in, raised, chain_in, order_in, place_in, number_by, renumbered, renumbered_slot, network_by, network_from, size_sum}
use Rattle.registers.proofs.Entering.{Apart}
use Rattle.registers.proofs.Expanding.{Grows, grows_same, grows_one, grows-below, grows-depth}
use Rattle.registers.proofs.Members.{OneOf, one-here, one-there}
use Rattle.registers.proofs.Meeting.{RowOf, row-none, row_more, row-met, hold-one, slot-board, slot-body}
use Rattle.registers.proofs.Chaining.{grows-body, grows-holds, chain-longest}
use Rattle.registers.proofs.Raising.{down-rises}
use Rattle.registers.proofs.Ordering.{row_has, row-place, row-order, entry-met, met-depth}
use Rattle.registers.proofs.Networks.{Roots, load-carries, load-network, close-carries, close-network, loaded_tree}
use Rattle.registers.proofs.Collecting.{root_tree}
use Rattle.registers.proofs.Earlier.{earlier-entry}
use Rattle.registers.proofs.Places.{OnceOf, place_at, place_of, sum_of, sum_to, sum-front, all-sum, all-length}

-- ---- rows
-- a slot of a row has its entry in it
row_one : (reg : List Slot) → Apart reg → {ks : List ℕ} {ms : List Met} → RowOf reg ks ms → (k n b : ℕ) (t : Tree) → Grows reg (leaf (Hold k)) (slot b t) → Among n b t ms → OneOf k ks
row_one reg apart row-none k n b t g a = absurd (none_in b t (n, a))
row_one reg apart (row_more {k = i} {m = m} h r) k n b t g (here p q s) =
    one-here (hold-one k i (grows_one reg apart (subst (λ (x : Tree). Grows reg (leaf (Hold k)) x) (ap₂ slot q s) g) h))
row_one reg apart (row_more h r) k n b t g (there a) = one-there (row_one reg apart r k n b t g a)

row-once : (reg : List Slot) {ks : List ℕ} {ms : List Met} → RowOf reg ks ms → Once ms → OnceOf ks
row-once reg row-none o = tt
row-once reg (row_more {k = k} {m = m} {ks = ks} {ms = ms} g r) o = (λ a. o.0 (again a), row-once reg r o.1)
  where
    again : OneOf k ks → In m.board m.body ms
    again a =
        let x = row_has reg r k a in
        let q = grows_same reg g x.3 in
        (x.0, subst (λ (c : ℕ). Among x.0 c m.body ms) (sym (slot-board m.board x.1 m.body x.2 q)) (subst (λ (u : Tree). Among x.0 x.1 u ms) (sym (slot-body m.board x.1 m.body x.2 q)) x.4))

-- ---- sizes
pub renumbered-size : (number : ℕ → ℕ) (f : Formula) → size (renumbered number f) ≡ size f
renumbered-size number (leaf (Const v)) = refl
renumbered-size number (leaf (Prop i)) = refl
renumbered-size number (leaf (Hold m)) = refl
renumbered-size number (one Not f) = ap (λ (x : ℕ). 1 + x) (renumbered-size number f)
renumbered-size number (one Next f) = refl
renumbered-size number (one (Ever j) f) = refl
renumbered-size number (two (Joined j) f g) = ap₂ (λ (x y : ℕ). 1 + x + y) (renumbered-size number f) (renumbered-size number g)
renumbered-size number (two Until f g) = refl

-- the nodes of a register's entries, one by one
sizes-to : (reg : List Slot) → size_sum reg ≡ sum_to (λ k. size (slot_at reg k).formula) (length reg)
unfolding size_sum
sizes-to [] = refl
sizes-to (s ∷ ss) = ap (λ (x : ℕ). size s.formula + x) (sizes-to ss) ∙ sym (sum-front (λ k. size (slot_at (s ∷ ss) k).formula) (length ss))

sizes-row : (number : ℕ → ℕ) (reg : List Slot) (ks : List ℕ) → size_sum (map (λ k. renumbered_slot number (slot_at reg k)) ks) ≡ sum_of (λ k. size (slot_at reg k).formula) ks
unfolding size_sum
sizes-row number reg [] = refl
sizes-row number reg (k ∷ ks) = ap₂ ◌+◌ (renumbered-size number (slot_at reg k).formula) (sizes-row number reg ks)

-- ---- a root and its register
module _ (whole : Tree) (x : Noted) (roots : Roots whole x) where
  rows : RowOf x.register (order_in x.here x.register) (ordered whole)
  rows = row-order x.register roots.registered x.here whole roots.tree roots.all

  agree : (k b : ℕ) (t : Tree) → Grows x.register (leaf (Hold k)) (slot b t) → chain_in x.here x.register k ≡ longest b t (met 1 whole)
  agree = chain-longest x.register roots.registered x.here whole roots.tree roots.all

  met-in : (k b : ℕ) (t : Tree) → Grows x.register (leaf (Hold k)) (slot b t) → In b t (met 1 whole)
  met-in = entry-met x.register roots.registered x.here whole roots.tree roots.all

  -- ---- the order
  pub order_below : (k : ℕ) → OneOf k (order_in x.here x.register) → k < length x.register
  order_below k a = let v = row_has x.register rows k a in (grows-body x.register k v.1 v.2 v.3).0

  pub order-has : (k : ℕ) → k < length x.register → OneOf k (order_in x.here x.register)
  order-has k l =
      let s = roots.all k l in
      let i = met-in k s.board s.body s.tree in
      let o = in-ordered i.0 s.board s.body whole i.1 in
      row_one x.register roots.registered.apart rows k o.0 s.board s.body s.tree o.1

  pub order-once : OnceOf (order_in x.here x.register)
  order-once = row-once x.register rows (ordered-once whole)

  pub order-length : length (order_in x.here x.register) ≡ length x.register
  order-length = all-length (length x.register) (order_in x.here x.register) order-once order_below order-has

  -- the number of the entry in place i is i
  pub order-place : (i : ℕ) → i < length x.register → place_in (get_or (order_in x.here x.register) i 0) (order_in x.here x.register) ≡ i
  order-place i l = let n = order-length in place_of (order_in x.here x.register) order-once i (omega arith)

  -- and the entry in the place of entry k is k
  pub order-at : (k : ℕ) → k < length x.register
      → (place_in k (order_in x.here x.register) < length x.register) × (get_or (order_in x.here x.register) (place_in k (order_in x.here x.register)) 0 ≡ k)
  order-at k l =
      let p = place_at k (order_in x.here x.register) (order-has k l) in
      let q = p.0 in
      let n = order-length in
      (omega arith, p.1)

  -- ---- the first meetings
  pub met-below : (k : ℕ) → OneOf k (met_in x.here x.register) → k < length x.register
  met-below k a =
      let v = row_has x.register (row-met x.register roots.registered x.here whole roots.tree) k a in
      (grows-body x.register k v.1 v.2 v.3).0

  pub met_has : (k : ℕ) → k < length x.register → OneOf k (met_in x.here x.register)
  met_has k l =
      let s = roots.all k l in
      let i = met-in k s.board s.body s.tree in
      ⊎_elim (λ o. row_one x.register roots.registered.apart (row-met x.register roots.registered x.here whole roots.tree) k o.0 s.board s.body s.tree o.1)
      (λ o. absurd (none_in s.board s.body o)) (in-firsts s.board s.body i.0 [] (met 1 whole) i.1)

  pub met-once : OnceOf (met_in x.here x.register)
  met-once = row-once x.register (row-met x.register roots.registered x.here whole roots.tree) (firsts-once [] (met 1 whole))

  pub met-length : length (met_in x.here x.register) ≡ length x.register
  met-length = all-length (length x.register) (met_in x.here x.register) met-once met-below met_has

  -- ---- chains
  pub chain-range : (k : ℕ) → k < length x.register → (1 ≤ chain_in x.here x.register k) × (chain_in x.here x.register k ≤ length x.register)
  chain-range k l =
      let s = roots.all k l in
      let i = met-in k s.board s.body s.tree in
      let a = longest-met i.0 s.board s.body (met 1 whole) i.1 in
      let e = agree k s.board s.body s.tree in
      let r = met-range 1 (longest s.board s.body (met 1 whole)) s.board s.body whole a in
      let p = r.0 in
      let q = met-depth 1 (longest s.board s.body (met 1 whole)) s.board s.body whole a in
      let d = grows-depth x.register roots.registered (length x.register) roots.tree (grows-below x.register roots.tree) in
      (omega arith, omega arith)

  -- one that is held has a longer chain than its holder, and a higher number
  pub chain-rises : (i k : ℕ) → i < length x.register → OneOf k (holds_at x.register i) → chain_in x.here x.register i + 1 ≤ chain_in x.here x.register k
  unfolding chain_in
  chain-rises i k l a = down-rises x.register roots.registered (length x.register) (raised 1 (holds_of x.here) (λ m. 0)) i k (omega arith) l a

  pub order-rises : (i k : ℕ) → i < length x.register → OneOf k (holds_at x.register i)
      → number_by (order_in x.here x.register) i < number_by (order_in x.here x.register) k
  order-rises i k l a =
      let h = earlier-entry x.register roots.registered i l k a in
      let s = roots.all i l in
      let t = roots.all k (omega arith) in
      let n = met-in i s.board s.body s.tree in
      let y = grows-body x.register i s.board s.body s.tree in
      let up = ordered-rises n.0 s.board t.board s.body t.body whole n.1 (grows-holds x.register y.2 k t.board t.body a t.tree) in
      let p = row-place x.register roots.registered.apart rows i s.board s.body s.tree in
      let q = row-place x.register roots.registered.apart rows k t.board t.body t.tree in
      omega arith

  -- ---- the network
  pub network-length : (b : ℕ) → length (network_from b x.here x.register) ≡ 1 + length x.register
  unfolding network_by
  network-length b =
      let order = order_in x.here x.register in
      let e = length-map order (λ k. renumbered_slot (number_by order) (slot_at x.register k)) in
      let n = order-length in
      omega arith

  pub network-size : (b : ℕ) → size_sum (network_from b x.here x.register) ≡ size x.here + size_sum x.register
  unfolding network_by size_sum
  network-size b =
      let order = order_in x.here x.register in
      ap₂ ◌+◌ (renumbered-size (number_by order) x.here)
      (sizes-row (number_by order) x.register order ∙ all-sum (λ k. size (slot_at x.register k).formula) (length x.register) order order-once order_below order-has ∙ sym (sizes-to x.register))

-- ---- slots by their numbers
pub network-root : (b : ℕ) (root : Formula) (reg : List Slot) → slot_at (network_from b root reg) 0 ≡ record { board = b; formula = renumbered (number_by (order_in root reg)) root }
unfolding network_by
network-root b root reg = refl

pub network-slot : (b : ℕ) (root : Formula) (reg : List Slot) (i : ℕ) → i < length (order_in root reg)
    → slot_at (network_from b root reg) (suc i) ≡ renumbered_slot (number_by (order_in root reg)) (slot_at reg (get_or (order_in root reg) i 0))
unfolding network_by
network-slot b root reg i l = map_at (order_in root reg) i l
  where
    map_at : (ks : List ℕ) (i : ℕ) → i < length ks → slot_at (map (λ k. renumbered_slot (number_by (order_in root reg)) (slot_at reg k)) ks) i ≡ renumbered_slot (number_by (order_in root reg)) (slot_at reg (get_or ks i 0))
    map_at [] i l = absurd (omega arith)
    map_at (k ∷ ks) zero l = refl
    map_at (k ∷ ks) (suc i) l = map_at ks i (omega arith)

-- ---- the two layouts
pub load-length : (choose : Formula → Option ℕ) (rule : Formula) → Free choose rule → length (merged (load choose rule)) ≡ 1 + length (load_noted choose rule).register
load-length choose rule free =
    ap (λ (s : List Slot). length s) (sym (load-network choose rule free)) ∙ network-length (loaded_tree choose rule) (load_noted choose rule) (load-carries choose rule free) (or_zero (choose (unfolded rule)))

pub load-size : (choose : Formula → Option ℕ) (rule : Formula) → Free choose rule
    → size_sum (merged (load choose rule)) ≡ size (load_noted choose rule).here + size_sum (load_noted choose rule).register
load-size choose rule free =
    ap size_sum (sym (load-network choose rule free)) ∙ network-size (loaded_tree choose rule) (load_noted choose rule) (load-carries choose rule free) (or_zero (choose (unfolded rule)))

module _ (choose : Formula → Option ℕ) (slots : List Slot) (some-slots : 0 < length slots)
    (clean : (n : ℕ) → n < length slots → Clean choose (slot_at slots n).formula)
    (holds : (n : ℕ) → n < length slots → HoldsIn (λ m. (n < m) × (m < length slots)) (slot_at slots n).formula) where
  pub close-length : length (merged (close choose slots)) ≡ 1 + length (close_noted choose slots).register
  close-length =
      ap (λ (s : List Slot). length s) (sym (close-network choose slots some-slots clean holds))
      ∙ network-length (root_tree choose slots) (close_noted choose slots) (close-carries choose slots some-slots clean holds) (slot_at slots 0).board

  pub close-size : size_sum (merged (close choose slots)) ≡ size (close_noted choose slots).here + size_sum (close_noted choose slots).register
  close-size =
      ap size_sum (sym (close-network choose slots some-slots clean holds))
      ∙ network-size (root_tree choose slots) (close_noted choose slots) (close-carries choose slots some-slots clean holds) (slot_at slots 0).board
