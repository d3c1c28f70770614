-- The two layouts by cases: what each way of laying keeps holds of a rule that is laid out (`load-elim`) and of a network that is
-- laid out again (`close-elim`), whose slots are `SlotStanding`. Also a fact of each slot of a row, by its number (`EachSlot`).
-- Assumes nothing.
use mathlib.Core.Path.{◌≡◌, refl, subst}
use mathlib.Core.List.{List, [], ◌∷◌, ◌++◌}
use mathlib.Core.Logic.{inl, inr}
use mathlib.Core.Option.{Option, none, some}
use Prim.Native.Nat.{ℕ, zero, suc, ◌+◌, ◌<◌, ◌≤◌}
use native.Mathlib.Omega.{arith}
use lib.ListN.{length}
use Rattle.kinds.specs.declared.Leaf.TheVariants.{Hold}
use Rattle.ltl.specs.Formula.{Formula, leaf}
use Rattle.ltl.specs.Progression.{unfolded}
use Rattle.network.specs.Layout.{Slot, Laid, cut, laid, or_zero, no_hold, slot_at, relaid}
use Rattle.network.proofs.Owned.{Free, Clean, free-clean, unfolded-free, unfolded-clean, unfolded-flat}
use Rattle.network.proofs.Laying.{HoldsIn, Tops, Kept, laid-elim}
use Rattle.network.proofs.Holding.{free-holds, unfolded-holds}

-- ---- each slot of a row, the first of them being slot n
abbrev pub EachSlot : (ℕ → Slot → Type 0) → ℕ → List Slot → Type 0
EachSlot P n [] = Unit {0}
EachSlot P n (s ∷ ss) = P n s × EachSlot P (n + 1) ss

module _ (P : ℕ → Slot → Type 0) where
  pub each_both : (n m : ℕ) (ss ts : List Slot) → m ≡ n + length ss → EachSlot P n ss → EachSlot P m ts → EachSlot P n (ss ++ ts)
  each_both n m [] ts e a b = let q : m ≡ n = omega arith in subst (λ (i : ℕ). EachSlot P i ts) q b
  each_both n m (s ∷ ss) ts e a b = (a.0, each_both (n + 1) m ss ts (omega arith) a.1 b)

  each_from : (n : ℕ) (ss : List Slot) → EachSlot P n ss → (i : ℕ) → i < length ss → P (n + i) (slot_at ss i)
  each_from n [] a i l = absurd (omega arith)
  each_from n (s ∷ ss) a zero l = let q : n ≡ n + 0 = omega arith in subst (λ (j : ℕ). P j s) q a.0
  each_from n (s ∷ ss) a (suc i) l = let q : n + 1 + i ≡ n + suc i = omega arith in subst (λ (j : ℕ). P j (slot_at ss i)) q (each_from (n + 1) ss a.1 i (omega arith))

  -- a row from slot 0 on
  pub each-slot : (ss : List Slot) → EachSlot P 0 ss → (k : ℕ) → k < length ss → P k (slot_at ss k)
  each-slot ss a k l = let q : 0 + k ≡ k = omega arith in subst (λ (j : ℕ). P j (slot_at ss k)) q (each_from 0 ss a k l)

module _ (choose : Formula → Option ℕ) (Top : ℕ → Formula → Type 0) where
  -- a slot that can be laid out again: clean, its unfolded top as laying asks, and holding slots of higher numbers alone
  pub record SlotStanding (end n : ℕ) (s : Slot) : Type 0 where
    pub clean : Clean choose s.formula
    pub top : Top s.board (unfolded s.formula)
    pub holds : HoldsIn (λ m. (n < m) × (m < end)) s.formula

  module _ (tops : Tops choose Top) (P : ℕ → ℕ → Formula → Laid → Type 0) (kept : Kept choose Top P) where
    -- ---- loading a rule
    pub load-elim : (rule : Formula) → Free choose rule
        → P (or_zero (choose (unfolded rule))) 1 (unfolded rule) (laid choose no_hold (unfolded rule) (or_zero (choose (unfolded rule))) 1)
    load-elim rule free =
        laid-elim choose Top tops P kept no_hold (λ m. ⊥) (λ b k m q. absurd q) (unfolded rule) (or_zero (choose (unfolded rule))) 1
        clean (unfolded-flat choose rule) (top (choose (unfolded rule)) refl) (free-holds choose (λ m. ⊥) (unfolded rule) (unfolded-free choose rule free))
      where
        clean : Clean choose (unfolded rule)
        clean = free-clean choose (unfolded rule) (unfolded-free choose rule free)

        top : (o : Option ℕ) → choose (unfolded rule) ≡ o → Top (or_zero o) (unfolded rule)
        top none e = tops.stays 0 (unfolded rule) clean (inl e)
        top (some b) e = tops.stays b (unfolded rule) clean (inr e)

    -- ---- closing a network
    module _ (slots : List Slot) (some-slots : 0 < length slots) (all : (n : ℕ) → n < length slots → SlotStanding (length slots) n (slot_at slots n))
        (on-held : (b k m : ℕ) (x : Laid) → m < length slots → P (slot_at slots m).board (k + 1) (unfolded (slot_at slots m).formula) x
        → P b k (leaf (Hold m)) (cut (slot_at slots m).board k x)) where
      -- slot m unfolded and laid out on its board
      relaid-slot : (most k m : ℕ) → m < length slots
          → ((b k n : ℕ) → (m < n) × (n < length slots) → P b k (leaf (Hold n)) (relaid choose slots most n k))
          → P (slot_at slots m).board k (unfolded (slot_at slots m).formula) (laid choose (relaid choose slots most) (unfolded (slot_at slots m).formula) (slot_at slots m).board k)
      relaid-slot most k m l h =
          let s = slot_at slots m in
          let t = all m l in
          laid-elim choose Top tops P kept (relaid choose slots most) (λ n. (m < n) × (n < length slots)) h (unfolded s.formula) s.board k
          (unfolded-clean choose s.formula t.clean) (unfolded-flat choose s.formula) t.top (unfolded-holds choose _ s.formula t.clean t.holds)

      relaid-elim : (most b k m : ℕ) → m < length slots → length slots ≤ most + m → P b k (leaf (Hold m)) (relaid choose slots most m k)
      unfolding relaid
      relaid-elim zero b k m l r = absurd (omega arith)
      relaid-elim (suc most) b k m l r =
          on-held b k m (laid choose (relaid choose slots most) (unfolded (slot_at slots m).formula) (slot_at slots m).board (k + 1)) l
          (relaid-slot most (k + 1) m l (λ c i n q. (let a = q.0 in relaid-elim most c i n q.1 (omega arith))))

      pub close-elim : P (slot_at slots 0).board 1 (unfolded (slot_at slots 0).formula)
          (laid choose (relaid choose slots (length slots)) (unfolded (slot_at slots 0).formula) (slot_at slots 0).board 1)
      close-elim = relaid-slot (length slots) 1 0 some-slots (λ c i n q. relaid-elim (length slots) c i n q.1 (omega arith))
