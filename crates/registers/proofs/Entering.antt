-- Entering a slot: it stands there, or is put behind the others (`enters`); so where its entry stands (`entry-below`, `entry-stands`),
-- what the register becomes (`entered-known`, `entered-new`), and that each slot stands once (`apart-entered`). Assumes nothing.
use mathlib.Core.Path.{◌≡◌, refl, sym, ap, ◌∙◌}
use mathlib.Core.Bool.{Bool, true, false}
use mathlib.Core.List.{List, [], ◌∷◌, ◌++◌, append-nil}
use mathlib.Core.Logic.{◌⊎◌, ⊎_elim}
use Prim.Native.Nat.{ℕ, zero, suc, ◌+◌, ◌<◌, ◌≤◌}
use native.Mathlib.Nat.{eq-or-lt_of_le}
use native.Mathlib.Omega.{arith}
use lib.ListN.{length, length-append, get_or-append}
use lib.Seq.{get_or-append_seam}
use lib.Dec.{eqb}
use borrow.Author.Tests.{eqb-true, eq-eqb}
use Rattle.lists.specs.Tests.{pick}
use Rattle.lists.proofs.Tests.{no_true, both-0, both-1, both_true}
use Rattle.ltl.specs.Formula.{same, constant}
use Rattle.ltl.proofs.Equal.{same-eq, same_refl}
use Rattle.network.specs.Layout.{Slot, slot_at}
use Rattle.registers.specs.Register.{same_slot, entry_of, entered}

-- the test of equal slots tells equal ones
pub slots-is : (s t : Slot) → same_slot s t ≡ true → s ≡ t
unfolding same_slot
slots-is s t e =
    let p = eqb-true s.board t.board (both-0 (eqb s.board t.board) (same s.formula t.formula) e) in
    let q = same-eq s.formula t.formula (both-1 (eqb s.board t.board) (same s.formula t.formula) e) in
    λ i. record { board = p i; formula = q i }

pub slots-of : (s t : Slot) → s ≡ t → same_slot s t ≡ true
unfolding same_slot
slots-of s t e =
    both_true (eqb s.board t.board) (same s.formula t.formula) (eq-eqb s.board t.board (ap (λ (x : Slot). x.board) e))
    (ap (λ (x : Slot). same s.formula x.formula) (sym e) ∙ same_refl s.formula)

-- a slot in a longer register
pub slot-before : (reg more : List Slot) (k : ℕ) → k < length reg → slot_at (reg ++ more) k ≡ slot_at reg k
slot-before reg more k l = get_or-append reg more (record { board = 0; formula = constant false }) k l

pub slot-last : (reg : List Slot) (s : Slot) → slot_at (reg ++ (s ∷ [])) (length reg) ≡ s
slot-last reg s = get_or-append_seam reg s [] (record { board = 0; formula = constant false })

-- how a slot is entered: it stands there as entry k, or is new and put behind the others
pub data Enters (s : Slot) (reg : List Slot) : ℕ → List Slot → Type 0 where
  known : {k : ℕ} → k < length reg → slot_at reg k ≡ s → Enters s reg k reg
  new : ((k : ℕ) → k < length reg → slot_at reg k ≡ s → ⊥) → Enters s reg (length reg) (reg ++ (s ∷ []))

pub enters : (s : Slot) (reg : List Slot) → Enters s reg (entry_of s reg) (entered s reg)
unfolding entry_of entered pick
enters s [] = new (λ k l e. absurd (omega arith))
enters s (t ∷ ts) = go (same_slot s t) refl (enters s ts)
  where
    other : same_slot s t ≡ false → ((k : ℕ) → k < length ts → slot_at ts k ≡ s → ⊥) → (k : ℕ) → k < length (t ∷ ts) → slot_at (t ∷ ts) k ≡ s → ⊥
    other e h zero l q = no_true (sym e ∙ slots-of s t (sym q))
    other e h (suc k) l q = h k (omega arith) q

    up : {k : ℕ} {r : List Slot} → same_slot s t ≡ false → Enters s ts k r → Enters s (t ∷ ts) (suc k) (t ∷ r)
    up e (known {k} l q) = known {k = suc k} (omega arith) q
    up e (new h) = new (other e h)

    go : (b : Bool) → same_slot s t ≡ b → Enters s ts (entry_of s ts) (entered s ts) → Enters s (t ∷ ts) (pick b 0 (suc (entry_of s ts))) (pick b (t ∷ ts) (t ∷ entered s ts))
    go true e i = known {k = 0} (omega arith) (sym (slots-is s t e))
    go false e i = up e i

-- ---- the entry of a slot
pub entry-most : (s : Slot) (reg : List Slot) → entry_of s reg ≤ length reg
entry-most s reg = go (enters s reg)
  where
    go : {k : ℕ} {r : List Slot} → Enters s reg k r → k ≤ length reg
    go (known l e) = omega arith
    go (new h) = omega arith

pub entry-below : (s : Slot) (reg : List Slot) → entry_of s reg < length (entered s reg)
entry-below s reg = go (enters s reg)
  where
    go : {k : ℕ} {r : List Slot} → Enters s reg k r → k < length r
    go (known l e) = l
    go (new h) = let n = length-append reg (s ∷ []) in omega arith

pub entry-stands : (s : Slot) (reg : List Slot) → slot_at (entered s reg) (entry_of s reg) ≡ s
entry-stands s reg = go (enters s reg)
  where
    go : {k : ℕ} {r : List Slot} → Enters s reg k r → slot_at r k ≡ s
    go (known l e) = e
    go (new h) = slot-last reg s

-- an entry before the end stands there
pub entry_known : (s : Slot) (reg : List Slot) → entry_of s reg < length reg → slot_at reg (entry_of s reg) ≡ s
entry_known s reg l = go (enters s reg) l
  where
    go : {k : ℕ} {r : List Slot} → Enters s reg k r → k < length reg → slot_at reg k ≡ s
    go (known l e) q = e
    go (new h) q = absurd (omega arith)

-- one at the end is that of a slot that stands nowhere
pub entry_new : (s : Slot) (reg : List Slot) → entry_of s reg ≡ length reg → (k : ℕ) → k < length reg → slot_at reg k ≡ s → ⊥
entry_new s reg e = go (enters s reg) e
  where
    go : {j : ℕ} {r : List Slot} → Enters s reg j r → j ≡ length reg → (k : ℕ) → k < length reg → slot_at reg k ≡ s → ⊥
    go (known l q) e = absurd (omega arith)
    go (new h) e = h

-- and the other way
pub entry-end : (s : Slot) (reg : List Slot) → ((k : ℕ) → k < length reg → slot_at reg k ≡ s → ⊥) → entry_of s reg ≡ length reg
entry-end s reg h = go (enters s reg)
  where
    go : {j : ℕ} {r : List Slot} → Enters s reg j r → j ≡ length reg
    go (known {k} l q) = absurd (h k l q)
    go (new h) = refl

-- ---- the register then
pub entered-known : (s : Slot) (reg : List Slot) → entry_of s reg < length reg → entered s reg ≡ reg
entered-known s reg l = go (enters s reg) l
  where
    go : {k : ℕ} {r : List Slot} → Enters s reg k r → k < length reg → r ≡ reg
    go (known l e) q = refl
    go (new h) q = absurd (omega arith)

pub entered-new : (s : Slot) (reg : List Slot) → entry_of s reg ≡ length reg → entered s reg ≡ reg ++ (s ∷ [])
entered-new s reg e = go (enters s reg) e
  where
    go : {k : ℕ} {r : List Slot} → Enters s reg k r → k ≡ length reg → r ≡ reg ++ (s ∷ [])
    go (known l e) q = absurd (omega arith)
    go (new h) q = refl

-- it grows at its end alone
pub entered-more : (s : Slot) (reg : List Slot) → (more : List Slot) × (entered s reg ≡ reg ++ more)
entered-more s reg = go (enters s reg)
  where
    go : {k : ℕ} {r : List Slot} → Enters s reg k r → (more : List Slot) × (r ≡ reg ++ more)
    go (known l e) = ([], sym (append-nil reg))
    go (new h) = (s ∷ [], refl)

-- ---- each slot once
-- equal entries are one entry
abbrev pub Apart : List Slot → Type 0
Apart reg = (i j : ℕ) → i < length reg → j < length reg → slot_at reg i ≡ slot_at reg j → i ≡ j

pub apart_none : Apart []
apart_none i j l m e = absurd (omega arith)

pub apart-new : (s : Slot) (reg : List Slot) → ((k : ℕ) → k < length reg → slot_at reg k ≡ s → ⊥) → Apart reg → Apart (reg ++ (s ∷ []))
apart-new s reg h a i j l m e =
    let n = length-append reg (s ∷ []) in
    ⊎_elim (λ p. ⊎_elim (λ q. omega arith) (λ q. absurd (h j q (sym (slot-before reg (s ∷ []) j q) ∙ sym e ∙ last i p))) (split j (omega arith)))
    (λ p. ⊎_elim (λ q. absurd (h i p (sym (slot-before reg (s ∷ []) i p) ∙ e ∙ last j q))) (λ q. a i j p q (sym (slot-before reg (s ∷ []) i p) ∙ e ∙ slot-before reg (s ∷ []) j q)) (split j (omega arith)))
    (split i (omega arith))
  where
    split : (k : ℕ) → k ≤ length reg → (k ≡ length reg) ⊎ (k < length reg)
    split k l = eq-or-lt_of_le l

    last : (k : ℕ) → k ≡ length reg → slot_at (reg ++ (s ∷ [])) k ≡ s
    last k e = ap (λ (x : ℕ). slot_at (reg ++ (s ∷ [])) x) e ∙ slot-last reg s

pub apart-entered : (s : Slot) (reg : List Slot) → Apart reg → Apart (entered s reg)
apart-entered s reg a = go (enters s reg)
  where
    go : {k : ℕ} {r : List Slot} → Enters s reg k r → Apart r
    go (known l e) = a
    go (new h) = apart-new s reg h a

-- so the test finds no two
pub apart-test : (reg : List Slot) → Apart reg → (i j : ℕ) → i < length reg → j < length reg → same_slot (slot_at reg i) (slot_at reg j) ≡ true → i ≡ j
apart-test reg a i j l m e = a i j l m (slots-is (slot_at reg i) (slot_at reg j) e)
