-- The layouts with a register are the merged ones: `load-network`, `close-network`, `close-standing`; and what is known of the root
-- and the register on the way (`Roots`, from `load-carries` and `close-carries`). Assumes nothing.
use mathlib.Core.Path.{◌≡◌, refl, sym, ap, ◌∙◌}
use mathlib.Core.List.{List, [], ◌∷◌}
use mathlib.Core.Option.{Option}
use Prim.Native.Nat.{ℕ, suc, ◌+◌, ◌<◌}
use native.Mathlib.Omega.{arith}
use native.Mathlib.Decide.{dec_lt}
use lib.ListN.{length}
use Rattle.kinds.specs.declared.Leaf.TheVariants.{Hold}
use Rattle.ltl.specs.Formula.{Formula, leaf}
use Rattle.ltl.specs.Progression.{unfolded}
use Rattle.network.specs.Layout.{Slot, slot_at, or_zero, load, close}
use Rattle.network.proofs.Owned.{Free, Clean, unfolded-free}
use Rattle.network.proofs.Laying.{HoldsIn}
use Rattle.network.proofs.Layouts.{SlotStanding}
use Rattle.network.proofs.Holding.{free-holds}
use Rattle.merging.specs.Merge.{Tree, stays, numbered, merged}
use Rattle.merging.specs.Lays.{laid_tree, load_tree, close_tree}
use Rattle.merging.proofs.Bridge.{load_tree_lem, close-tree}
use Rattle.registers.specs.Register.{Noted, laid_noted}
use Rattle.registers.specs.Relaying.{reached_in, Entries, held_from, entries_of, others, load_noted, close_noted}
use Rattle.registers.specs.Numbers.{network_from}
use Rattle.registers.proofs.Expanding.{Grows, grows-below, Registered, Occurs, occurs-longer}
use Rattle.registers.proofs.Carrying.{Carries, carries-laid, registered-none}
use Rattle.registers.proofs.Ordering.{network-numbered}
use Rattle.registers.proofs.Reaching.{reached-root}
use Rattle.registers.proofs.Collecting.{Collected, collected, stood-all, relaid_at, root_tree, reached-inside}

-- a root and its register, and the tree that they are
pub record Roots (whole : Tree) (x : Noted) : Type 0 where
  pub registered : Registered x.register
  pub tree : Grows x.register x.here whole
  pub all : (k : ℕ) → k < length x.register → Occurs x.register k whole

pub roots-network : (b : ℕ) (whole : Tree) (x : Noted) → Roots whole x → network_from b x.here x.register ≡ numbered b whole
roots-network b whole x r = network-numbered x.register r.registered x.here whole r.tree r.all b

-- the root holds entries that are there
pub roots-below : (whole : Tree) (x : Noted) → Roots whole x → HoldsIn (λ m. m < length x.register) x.here
roots-below whole x r = grows-below x.register r.tree

-- ---- loading
-- the tree of a rule
abbrev pub loaded_tree : (Formula → Option ℕ) → Formula → Tree
loaded_tree choose rule = laid_tree choose (λ m. stays (leaf (Hold m))) (unfolded rule) (or_zero (choose (unfolded rule)))

pub load-carries : (choose : Formula → Option ℕ) (rule : Formula) → Free choose rule → Roots (loaded_tree choose rule) (load_noted choose rule)
unfolding load_noted
load-carries choose rule free =
    let c = carries-laid choose (λ m. m) (λ m. stays (leaf (Hold m))) (unfolded rule) (or_zero (choose (unfolded rule))) [] registered-none
    (free-holds choose _ (unfolded rule) (unfolded-free choose rule free)) in
    record { registered = c.registered; tree = c.tree; all = λ k l. c.seen k (omega arith) l }

pub load-network : (choose : Formula → Option ℕ) (rule : Formula) → Free choose rule
    → (let x = load_noted choose rule in network_from (or_zero (choose (unfolded rule))) x.here x.register ≡ merged (load choose rule))
unfolding load_tree
load-network choose rule free =
    roots-network (or_zero (choose (unfolded rule))) (loaded_tree choose rule) (load_noted choose rule) (load-carries choose rule free) ∙ sym (load_tree_lem choose rule free)

-- ---- closing
module _ (choose : Formula → Option ℕ) (slots : List Slot) (some-slots : 0 < length slots)
    (clean : (n : ℕ) → n < length slots → Clean choose (slot_at slots n).formula)
    (holds : (n : ℕ) → n < length slots → HoldsIn (λ m. (n < m) × (m < length slots)) (slot_at slots n).formula) where
  -- the slots behind slot 0, entered
  others-collected : Collected choose slots 1 (others slots) (entries_of choose (reached_in slots) 1 (others slots))
  others-collected = collected choose slots clean holds 1 (others slots) at (long slots some-slots)
    where
      next : (ss : List Slot) (j : ℕ) → j < length (others ss) → slot_at ss (suc j) ≡ slot_at (others ss) j
      next [] j l = absurd (omega arith)
      next (s ∷ ss) j l = refl

      at : (j : ℕ) → j < length (others slots) → slot_at slots (1 + j) ≡ slot_at (others slots) j
      at j l = let z : 1 + j ≡ suc j = omega arith in ap (λ (n : ℕ). slot_at slots n) z ∙ next slots j l

      long : (ss : List Slot) → 0 < length ss → 1 + length (others ss) ≡ length ss
      long [] l = absurd (omega arith)
      long (s ∷ ss) l = omega arith

  others-length : 1 + length (others slots) ≡ length slots
  others-length = go slots some-slots
    where
      go : (ss : List Slot) → 0 < length ss → 1 + length (others ss) ≡ length ss
      go [] l = absurd (omega arith)
      go (s ∷ ss) l = omega arith

  pub close-carries : Roots (root_tree choose slots) (close_noted choose slots)
  unfolding close_noted
  close-carries = record { registered = c.registered; tree = c.tree; all = all }
    where
      e : Entries
      e = entries_of choose (reached_in slots) 1 (others slots)

      x : Noted
      x = laid_noted choose (held_from 1 e.numbers) (unfolded (slot_at slots 0).formula) (slot_at slots 0).board e.register

      c : Carries e.register (root_tree choose slots) x
      c =
          carries-laid choose (held_from 1 e.numbers) (relaid_at choose slots) (unfolded (slot_at slots 0).formula) (slot_at slots 0).board e.register others-collected.registered
          (stood-all choose slots clean holds 0 1 (others slots) e others-collected (omega arith) (omega arith) others-length (reached-root slots))

      all : (k : ℕ) → k < length x.register → Occurs x.register k (root_tree choose slots)
      all k l = go (dec_lt k (length e.register))
        where
          go : Dec (k < length e.register) → Occurs x.register k (root_tree choose slots)
          go (yes q) =
              let v = others-collected.seen k q in
              let j = v.0 in
              let h = v.1 in
              let n = others-length in
              occurs-longer e.register x.register c.longer k (relaid_at choose slots (1 + j)) (root_tree choose slots)
              (λ b t i. reached-inside choose slots clean holds (1 + j) (omega arith) (omega arith) v.2 b t i) v.3
          go (no q) = c.seen k (omega arith) l

  pub close-network : (let x = close_noted choose slots in network_from (slot_at slots 0).board x.here x.register ≡ merged (close choose slots))
  unfolding close_tree
  close-network =
      roots-network (slot_at slots 0).board (root_tree choose slots) (close_noted choose slots) close-carries ∙ sym (close-tree choose slots some-slots clean holds)

-- the same for a network whose slots are as the state check finds them
pub close-standing : (choose : Formula → Option ℕ) (Top : ℕ → Formula → Type 0) (slots : List Slot) → 0 < length slots
    → ((n : ℕ) → n < length slots → SlotStanding choose Top (length slots) n (slot_at slots n))
    → (let x = close_noted choose slots in network_from (slot_at slots 0).board x.here x.register ≡ merged (close choose slots))
close-standing choose Top slots some-slots all = close-network choose slots some-slots (λ n l. (all n l).clean) (λ n l. (all n l).holds)
