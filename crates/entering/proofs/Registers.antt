-- Which entry a slot has (`entry_at`, `entry-end`), and what the register becomes (`entered-known`, `entered-new`). Assumes nothing.
use mathlib.Core.Path.{◌≡◌, refl, sym, ap, ◌∙◌}
use mathlib.Core.Bool.{Bool, true, false}
use mathlib.Core.List.{List, [], ◌∷◌, ◌++◌}
use Prim.Native.Nat.{ℕ, zero, suc, ◌<◌, ◌≤◌}
use native.Mathlib.Omega.{arith}
use lib.ListN.{length}
use lib.Dec.{eqb}
use borrow.Author.Tests.{eqb-true, eq-eqb}
use Rattle.lists.specs.Tests.{pick}
use Rattle.lists.proofs.Tests.{no_true, both-0, both-1, both_true}
use Rattle.ltl.specs.Formula.{same}
use Rattle.ltl.proofs.Equal.{same-eq, same_refl}
use Rattle.network.specs.Layout.{Slot, slot_at}
use Rattle.registers.specs.Register.{same_slot, entry_of, entered}

-- the test of equal slots tells equal ones
slots-is : (s t : Slot) → same_slot s t ≡ true → s ≡ t
unfolding same_slot
slots-is s t e =
    let p = eqb-true s.board t.board (both-0 (eqb s.board t.board) (same s.formula t.formula) e) in
    let q = same-eq s.formula t.formula (both-1 (eqb s.board t.board) (same s.formula t.formula) e) in
    λ i. record { board = p i; formula = q i }

slots-of : (s t : Slot) → s ≡ t → same_slot s t ≡ true
unfolding same_slot
slots-of s t e =
    both_true (eqb s.board t.board) (same s.formula t.formula) (eq-eqb s.board t.board (ap (λ (x : Slot). x.board) e))
    (ap (λ (x : Slot). same s.formula x.formula) (sym e) ∙ same_refl s.formula)

-- the slot is none of the first n entries
abbrev pub Before : Slot → List Slot → ℕ → Type 0
Before s reg n = (j : ℕ) → j < n → slot_at reg j ≡ s → ⊥

-- a slot that stands at k and not before has that entry, and the register stays
pub entry_at : (s : Slot) (reg : List Slot) (k : ℕ) → k < length reg → slot_at reg k ≡ s → Before s reg k → entry_of s reg ≡ k
unfolding entry_of pick
entry_at s [] k l e h = absurd (omega arith)
entry_at s (t ∷ ts) zero l e h = go (same_slot s t) (slots-of s t (sym e))
  where
    go : (b : Bool) → b ≡ true → pick b 0 (suc (entry_of s ts)) ≡ 0
    go true q = refl
    go false q = absurd (no_true q)
entry_at s (t ∷ ts) (suc k) l e h = go (same_slot s t) refl (entry_at s ts k (omega arith) e (λ j m. h (suc j) (omega arith)))
  where
    go : (b : Bool) → same_slot s t ≡ b → entry_of s ts ≡ k → pick b 0 (suc (entry_of s ts)) ≡ suc k
    go true q i = absurd (h 0 (omega arith) (sym (slots-is s t q)))
    go false q i = ap suc i

-- one that stands nowhere has the entry behind the last
pub entry-end : (s : Slot) (reg : List Slot) → Before s reg (length reg) → entry_of s reg ≡ length reg
unfolding entry_of pick
entry-end s [] h = refl
entry-end s (t ∷ ts) h = go (same_slot s t) refl (entry-end s ts (λ j m. h (suc j) (omega arith)))
  where
    go : (b : Bool) → same_slot s t ≡ b → entry_of s ts ≡ length ts → pick b 0 (suc (entry_of s ts)) ≡ suc (length ts)
    go true q i = absurd (h 0 (omega arith) (sym (slots-is s t q)))
    go false q i = ap suc i

-- and no slot has one behind that
pub entry-most : (s : Slot) (reg : List Slot) → entry_of s reg ≤ length reg
unfolding entry_of pick
entry-most s [] = omega arith
entry-most s (t ∷ ts) = go (same_slot s t) (entry-most s ts)
  where
    go : (b : Bool) → entry_of s ts ≤ length ts → pick b 0 (suc (entry_of s ts)) ≤ suc (length ts)
    go true h = omega arith
    go false h = omega arith

-- ---- the register then
pub entered-known : (s : Slot) (reg : List Slot) → entry_of s reg < length reg → entered s reg ≡ reg
unfolding entry_of entered pick
entered-known s [] l = absurd (omega arith)
entered-known s (t ∷ ts) l = go (same_slot s t) l (entered-known s ts)
  where
    go : (b : Bool) → pick b 0 (suc (entry_of s ts)) < suc (length ts) → (entry_of s ts < length ts → entered s ts ≡ ts) → pick b (t ∷ ts) (t ∷ entered s ts) ≡ t ∷ ts
    go true m i = refl
    go false m i = ap (t ∷◌) (i (omega arith))

pub entered-new : (s : Slot) (reg : List Slot) → length reg ≤ entry_of s reg → entered s reg ≡ reg ++ (s ∷ [])
unfolding entry_of entered pick
entered-new s [] l = refl
entered-new s (t ∷ ts) l = go (same_slot s t) l (entered-new s ts)
  where
    go : (b : Bool) → suc (length ts) ≤ pick b 0 (suc (entry_of s ts)) → (length ts ≤ entry_of s ts → entered s ts ≡ ts ++ (s ∷ []))
        → pick b (t ∷ ts) (t ∷ entered s ts) ≡ t ∷ (ts ++ (s ∷ []))
    go true m i = absurd (omega arith)
    go false m i = ap (t ∷◌) (i (omega arith))
