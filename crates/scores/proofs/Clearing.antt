-- A mask without its lowest proposition: `cleared-lowest` and `cleared-other` say which bits are left, and `own-more` is one turn of
-- the loop that makes a board the owner of its mask's propositions. Assumes nothing.
use mathlib.Core.Path.{◌≡◌, refl, sym, ap, ap₂, ◌∙◌}
use mathlib.Core.Bool.{Bool}
use mathlib.Core.List.{List}
use Prim.Native.Nat.{ℕ, zero, suc, ◌-◌, ◌*◌, ◌/◌, ◌%◌, ◌<◌}
use native.Mathlib.Omega.{arith}
use native.Mathlib.Decide.{ℕ_discrete}
use lib.ListN.{length, get_or, set}
use lib.Seq.{get_or-set_same, get_or-set_other}
use lib.Bits.{bit_and, and_step, and_self}
use Rattle.lists.proofs.Tests.{no_bits}
use Rattle.lists.specs.Tests.{pick, bit}
use Rattle.masks.specs.Masks.{bit_at}
use Rattle.masks.proofs.Bits.{bit-zero, bit-suc}
use Rattle.scores.proofs.Tests.{bit-yes, bit-no, bit-same}

-- the lowest proposition of a mask is cleared
abbrev pub cleared : ℕ → ℕ
cleared m = bit_and m (m - 1)

-- p is the lowest proposition of m
abbrev pub Lowest : ℕ → ℕ → Type 0
Lowest m p = (bit_at m p ≡ 1) × ((j : ℕ) → j < p → bit_at m j ≡ 0)

-- ---- by halves
cleared-odd : (m : ℕ) → m % 2 ≡ 1 → cleared m ≡ m / 2 * 2
cleared-odd m h =
    let e : (m - 1) / 2 ≡ m / 2 = omega arith in
    let q : (m - 1) % 2 ≡ 0 = omega arith in
    and_step m (m - 1) ∙ rw (e, q, h, and_self (m / 2)) (omega arith)

cleared-even : (m : ℕ) → 0 < m → m % 2 ≡ 0 → cleared m ≡ cleared (m / 2) * 2
cleared-even m z h =
    let e : (m - 1) / 2 ≡ m / 2 - 1 = omega arith in
    let q : (m - 1) % 2 ≡ 1 = omega arith in
    and_step m (m - 1) ∙ rw (e, q, h) (omega arith)

-- bits of twice a number
twice-zero : (m n : ℕ) → m ≡ n * 2 → bit_at m 0 ≡ 0
twice-zero m n e = bit-zero m ∙ omega arith

twice-suc : (m n i : ℕ) → m ≡ n * 2 → bit_at m (suc i) ≡ bit_at n i
twice-suc m n i e = bit-suc m i ∙ ap (λ (x : ℕ). bit_at x i) (let h : m / 2 ≡ n = omega arith in h)

lowest-half : (m p : ℕ) → Lowest m (suc p) → Lowest (m / 2) p
lowest-half m p l = (sym (bit-suc m p) ∙ l.0, λ j k. sym (bit-suc m j) ∙ l.1 (suc j) (omega arith))

lowest-even : (m p : ℕ) → Lowest m (suc p) → m % 2 ≡ 0
lowest-even m p l = sym (bit-zero m) ∙ l.1 0 (omega arith)

-- ---- the bits that are left
cleared-lowest : (p m : ℕ) → 0 < m → Lowest m p → bit_at (cleared m) p ≡ 0
cleared-lowest zero m z l = twice-zero (cleared m) (m / 2) (cleared-odd m (sym (bit-zero m) ∙ l.0))
cleared-lowest (suc p) m z l =
    let h = lowest-even m p l in
    twice-suc (cleared m) (cleared (m / 2)) p (cleared-even m z h) ∙ cleared-lowest p (m / 2) (omega arith) (lowest-half m p l)

cleared-other : (p m i : ℕ) → 0 < m → Lowest m p → (i ≡ p → ⊥) → bit_at (cleared m) i ≡ bit_at m i
cleared-other zero m zero z l n = absurd (n refl)
cleared-other zero m (suc i) z l n = twice-suc (cleared m) (m / 2) i (cleared-odd m (sym (bit-zero m) ∙ l.0)) ∙ sym (bit-suc m i)
cleared-other (suc p) m zero z l n =
    let h = lowest-even m p l in twice-zero (cleared m) (cleared (m / 2)) (cleared-even m z h) ∙ sym h ∙ sym (bit-zero m)
cleared-other (suc p) m (suc i) z l n =
    let h = lowest-even m p l in
    twice-suc (cleared m) (cleared (m / 2)) i (cleared-even m z h)
    ∙ cleared-other p (m / 2) i (omega arith) (lowest-half m p l) (λ e. n (ap suc e))
    ∙ sym (bit-suc m i)

-- ---- the owner's turn: what the propositions left in the mask have yet to change
pub own-more : (owner : List ℕ) (m p v : ℕ) → 0 < m → p < length owner → Lowest m p
    → (i : ℕ) → pick (bit (cleared m) i) v (get_or (set owner p v) i 0) ≡ pick (bit m i) v (get_or owner i 0)
unfolding pick
own-more owner m p v z h l i = go (ℕ_discrete i p)
  where
    go : Dec (i ≡ p) → pick (bit (cleared m) i) v (get_or (set owner p v) i 0) ≡ pick (bit m i) v (get_or owner i 0)
    go (yes e) = rw (e, bit-no (cleared m) p (cleared-lowest p m z l), bit-yes m p l.0, get_or-set_same owner p v 0 h)
    go (no n) = ap₂ (λ (t : Bool) (x : ℕ). pick t v x) (bit-same (cleared m) m i (cleared-other p m i z l n)) (get_or-set_other owner p i v 0 n)

-- nothing is left
pub own-done : (i v x : ℕ) → pick (bit 0 i) v x ≡ x
unfolding pick
own-done i v x = rw (no_bits i)
