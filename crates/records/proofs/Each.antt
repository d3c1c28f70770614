-- A test of every number below another, some tests in a list, and all bytes by their union (`union-all`). Assumes nothing.
use mathlib.Core.Path.{◌≡◌, refl, sym, ap, ◌∙◌}
use mathlib.Core.Bool.{Bool, true, false}
use mathlib.Core.List.{List, [], ◌∷◌}
use Prim.Native.Nat.{ℕ, zero, suc, ◌+◌, ◌<◌, ◌≤◌}
use native.Mathlib.Nat.{eq-or-lt_of_le}
use native.Mathlib.Numerals.{add-one}
use native.Mathlib.Omega.{arith}
use native.Mathlib.Decide.{ℕ_discrete}
use mathlib.Core.Logic.{⊎_elim}
use lib.ListN.{get_or}
use lib.Dec.{leb, eqb}
use lib.Bits.{bit_or, or_add_and, and_le_l, and_le_r}
use borrow.Author.Tests.{leb-true, eq-eqb, ne_eqb}
use Rattle.std.specs.List.{fold}
use Rattle.lists.specs.Tests.{both, in_range}
use Rattle.lists.proofs.Tests.{both-0, both-1, both_true}
use Rattle.state.specs.Clauses.{each_below, each_true, all_zero}

-- ---- below a number
pub each_none : (test : ℕ → Bool) → each_below 0 test ≡ true
unfolding each_below
each_none test = refl

pub each_more : (test : ℕ → Bool) (i : ℕ) → each_below i test ≡ true → test i ≡ true → each_below (i + 1) test ≡ true
unfolding each_below both
each_more test i e t = rw (add-one, e, t)

pub both_false : (a : Bool) → both a false ≡ false
unfolding both
both_false true = refl
both_false false = refl

pub each-false : (test : ℕ → Bool) (i n : ℕ) → i < n → test i ≡ false → each_below n test ≡ false
unfolding each_below both
each-false test i zero l t = absurd (omega arith)
each-false test i (suc n) l t =
    ⊎_elim
    (λ e. (let k : i ≡ n = omega arith in ap (both (each_below n test)) (ap test (sym k) ∙ t) ∙ both_false (each_below n test)))
    (λ h. (let k : i < n = omega arith in rw (each-false test i n k t)))
    (eq-or-lt_of_le l)

pub each_at : (test : ℕ → Bool) (n i : ℕ) → each_below n test ≡ true → i < n → test i ≡ true
unfolding each_below
each_at test zero i e l = absurd (omega arith)
each_at test (suc n) i e l =
    ⊎_elim
    (λ q. (let k : n ≡ i = omega arith in ap test (sym k) ∙ both-1 (each_below n test) (test n) e))
    (λ q. each_at test n i (both-0 (each_below n test) (test n) e) (omega arith))
    (eq-or-lt_of_le l)

-- the last of some tests
pub both-last : (a : Bool) → a ≡ both a true
unfolding both
both-last true = refl
both-last false = refl

-- ---- a list of tests: one that fails is enough, and each holds where all do
pub one-false : (bs : List Bool) (i : ℕ) → get_or bs i true ≡ false → each_true bs ≡ false
unfolding each_true both
one-false [] i e = e
one-false (b ∷ bs) zero e = rw e
one-false (b ∷ bs) (suc i) e = ap (both b) (one-false bs i e) ∙ both_false b

pub one-true : (bs : List Bool) (i : ℕ) → each_true bs ≡ true → get_or bs i true ≡ true
unfolding each_true
one-true [] i e = refl
one-true (b ∷ bs) zero e = both-0 b (each_true bs) e
one-true (b ∷ bs) (suc i) e = one-true bs i (both-1 b (each_true bs) e)

-- ---- all bytes, by their union
union-zero : (a b : ℕ) → eqb (bit_or a b) 0 ≡ both (eqb a 0) (eqb b 0)
unfolding both
union-zero a b = go (ℕ_discrete a 0) (ℕ_discrete b 0)
  where
    some : (0 < a + b) → eqb (bit_or a b) 0 ≡ false
    some h = let s = or_add_and a b in let l = and_le_l a b in let r = and_le_r a b in ne_eqb (bit_or a b) 0 (λ e. omega arith)

    go : Dec (a ≡ 0) → Dec (b ≡ 0) → eqb (bit_or a b) 0 ≡ both (eqb a 0) (eqb b 0)
    go (yes p) (yes q) = let s = or_add_and a b in eq-eqb (bit_or a b) 0 (omega arith) ∙ sym (both_true (eqb a 0) (eqb b 0) (eq-eqb a 0 p) (eq-eqb b 0 q))
    go (yes p) (no q) = some (omega arith) ∙ sym (ap (both (eqb a 0)) (ne_eqb b 0 q) ∙ both_false (eqb a 0))
    go (no p) d = some (omega arith) ∙ sym (none (ne_eqb a 0 p))
      where
        none : eqb a 0 ≡ false → both (eqb a 0) (eqb b 0) ≡ false
        none e = rw e

both-assoc : (a b c : Bool) → both a (both b c) ≡ both (both a b) c
unfolding both
both-assoc true b c = refl
both-assoc false b c = refl

union-from : (s : List ℕ) (union : ℕ) → eqb (fold bit_or union s) 0 ≡ both (eqb union 0) (all_zero s)
unfolding all_zero
union-from [] union = both-last (eqb union 0)
union-from (x ∷ s) union =
    union-from s (bit_or union x)
    ∙ ap (λ (b : Bool). both b (all_zero s)) (union-zero union x)
    ∙ sym (both-assoc (eqb union 0) (eqb x 0) (all_zero s))

pub union-all : (s : List ℕ) → eqb (fold bit_or 0 s) 0 ≡ all_zero s
unfolding both
union-all s = union-from s 0

-- ---- a range
pub range-most : (most n : ℕ) → in_range most n ≡ true → n ≤ most
range-most most n e = leb-true n most (both-1 (leb 1 n) (leb n most) e)

pub range-some : (most n : ℕ) → in_range most n ≡ true → 1 ≤ n
range-some most n e = leb-true 1 n (both-0 (leb 1 n) (leb n most) e)
