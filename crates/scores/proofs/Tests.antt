-- A bit as a test, and equal numbers. Assumes nothing.
use mathlib.Core.Path.{◌≡◌, sym, ap, ◌∙◌}
use mathlib.Core.Bool.{true, false}
use Prim.Native.Nat.{ℕ, suc}
use native.Mathlib.Omega.{arith}
use native.Mathlib.Decide.{ℕ_discrete}
use lib.Dec.{eqb}
use borrow.Author.Tests.{eq-eqb, ne_eqb}
use Rattle.lists.specs.Tests.{bit}
use Rattle.masks.specs.Masks.{bit_at}

pub bit-yes : (m i : ℕ) → bit_at m i ≡ 1 → bit m i ≡ true
unfolding bit
bit-yes m i e = rw e

pub bit-no : (m i : ℕ) → bit_at m i ≡ 0 → bit m i ≡ false
unfolding bit
bit-no m i e = rw e

pub bit-same : (m n i : ℕ) → bit_at m i ≡ bit_at n i → bit m i ≡ bit n i
unfolding bit
bit-same m n i e = rw e

pub eqb-suc : (a b : ℕ) → eqb (suc a) (suc b) ≡ eqb a b
eqb-suc a b = go (ℕ_discrete a b)
  where
    go : Dec (a ≡ b) → eqb (suc a) (suc b) ≡ eqb a b
    go (yes e) = eq-eqb (suc a) (suc b) (ap suc e) ∙ sym (eq-eqb a b e)
    go (no n) = ne_eqb (suc a) (suc b) (λ e. n (omega arith)) ∙ sym (ne_eqb a b n)
