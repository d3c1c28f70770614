-- What the least, the greatest and the sum of some numbers have to do with each other (`CanSpan`, `list-span`): with n numbers, one of them the
-- least and one the greatest, the sum is at least the greatest and n - 1 times the least, and at most the least and n - 1 times the
-- greatest. Both are one law of a relation that may be added side by side (`sum-among`), and so is that n numbers on one side of a bound have
-- a sum on that side of n times the bound (`sum_bound`; `sum-most`). `span-is` and `span_of` say that `span_ok` tests a span. Assumes nothing.
use mathlib.Core.Path.{◌≡◌, refl, sym, subst}
use mathlib.Core.Bool.{Bool, true, false}
use mathlib.Core.Logic.{inl, inr, ⊎_elim}
use mathlib.Core.List.{List, [], ◌∷◌}
use Prim.Native.Nat.{ℕ, suc, ◌+◌, ◌-◌, ◌*◌, ◌≤◌, min, max}
use native.Mathlib.Nat.{le_refl, le_of_lt, le_trans, add-le-add, zero-mul, suc-mul, min_comm, max_comm}
use native.Mathlib.Omega.{arith}
use lib.ListN.{length}
use lib.Dec.{leb}
use borrow.Author.Tests.{leb-true, leb-false, le-leb}
use Rattle.lists.proofs.Tests.{both-0, both-1, both_true}
use Rattle.reports.specs.Report.{chosen, summed}
use Rattle.reports.specs.Bytes.{span_ok}
use Rattle.reports.specs.Nights.{Each}
use Rattle.reports.proofs.Each.{each_more}
use Rattle.reports.proofs.Figures.{min_assoc, max_assoc}
use Rattle.reports.proofs.Chosen.{Picks, Among, chosen-among, chosen-bounds}

-- ---- sums of numbers on one side of a bound
module _ (R : ℕ → ℕ → Type 0) (same : (a : ℕ) → R a a) (plus : (a b c d : ℕ) → R a b → R c d → R (a + c) (b + d)) where
  pub sum_bound : (a : ℕ) (ts : List ℕ) → Each (R a) ts → R (length ts * a) (summed ts)
  unfolding summed
  sum_bound a [] h = subst (λ (z : ℕ). R z 0) (sym (zero-mul a)) (same 0)
  sum_bound a (t ∷ ts) h =
      let e : a + length ts * a ≡ suc (length ts) * a = let m = suc-mul (length ts) a in omega arith in
      subst (λ (z : ℕ). R z (t + summed ts)) e (plus a t (length ts * a) (summed ts) h.0 (sum_bound a ts h.1))

  -- one of them being x: the first, or one behind it
  sum_first : (a x t : ℕ) (ts : List ℕ) → Each (R a) ts → x ≡ t → R (x + length ts * a) (summed (t ∷ ts))
  unfolding summed
  sum_first a x t ts h e = subst (λ (z : ℕ). R (z + length ts * a) (t + summed ts)) (sym e) (plus t t (length ts * a) (summed ts) (same t) (sum_bound a ts h))

  sum-among : (a x t : ℕ) (ts : List ℕ) → Each (R a) (t ∷ ts) → Among x (t ∷ ts) → R (x + length ts * a) (summed (t ∷ ts))
  unfolding summed
  sum-among a x t [] h m = ⊎_elim (sum_first a x t [] tt) (λ k. absurd k) m
  sum-among a x t (u ∷ us) h m =
      let e : a + (x + length us * a) ≡ x + suc (length us) * a = let k = suc-mul (length us) a in omega arith in
      ⊎_elim
      (sum_first a x t (u ∷ us) h.1)
      (λ k. subst (λ (z : ℕ). R z (t + summed (u ∷ us))) e (plus a t (x + length us * a) (u + summed us) h.0 (sum-among a x u us h.1 k)))
      m

pub sum-most : (b : ℕ) (ts : List ℕ) → Each (λ x. x ≤ b) ts → summed ts ≤ length ts * b
sum-most = sum_bound (λ a b. b ≤ a) le_refl (λ a b c d p q. add-le-add p q)

-- ---- the least, the greatest and the sum
-- n numbers, n at least 1, can have e and l as the least and the greatest of them, and the sum s
pub record CanSpan (n e l s : ℕ) : Type 0 where
  pub order : e ≤ l
  pub least : l + (n - 1) * e ≤ s
  pub most : s ≤ e + (n - 1) * l

-- one of two numbers is not above the other
by_order : {Q : Type 0} (a b : ℕ) → (a ≤ b → Q) → (b ≤ a → Q) → Q
by_order {Q} a b h k = go (leb a b) refl
  where
    go : (c : Bool) → leb a b ≡ c → Q
    go true e = h (leb-true a b e)
    go false e = k (le_of_lt (leb-false a b e))

min-picks : Picks min
min-picks a b = by_order a b (λ h. inl (omega arith)) (λ h. inr (omega arith))

max-picks : Picks max
max-picks a b = by_order a b (λ h. inr (omega arith)) (λ h. inl (omega arith))

module _ (t : ℕ) (ts : List ℕ) where
  -- the least is one of them and not above any, the greatest is one of them and not below any
  pub least-among : Among (chosen min (t ∷ ts)) (t ∷ ts)
  least-among = chosen-among min min-picks t ts

  pub greatest-among : Among (chosen max (t ∷ ts)) (t ∷ ts)
  greatest-among = chosen-among max max-picks t ts

  pub least-bounds : Each (λ x. chosen min (t ∷ ts) ≤ x) (t ∷ ts)
  least-bounds =
      let e = chosen min (t ∷ ts) in
      each_more (λ x. min e x ≡ e) (λ x. e ≤ x) (λ x h. omega arith) (t ∷ ts) (chosen-bounds min min_assoc min_comm (λ a. omega arith) t ts)

  pub greatest-bounds : Each (λ x. x ≤ chosen max (t ∷ ts)) (t ∷ ts)
  greatest-bounds =
      let l = chosen max (t ∷ ts) in
      each_more (λ x. max l x ≡ l) (λ x. x ≤ l) (λ x h. omega arith) (t ∷ ts) (chosen-bounds max max_assoc max_comm (λ a. omega arith) t ts)

  pub list-span : CanSpan (length (t ∷ ts)) (chosen min (t ∷ ts)) (chosen max (t ∷ ts)) (summed (t ∷ ts))
  list-span =
      let e = chosen min (t ∷ ts) in
      let l = chosen max (t ∷ ts) in
      let one : suc (length ts) - 1 ≡ length ts = omega arith in
      let low = sum-among ◌≤◌ le_refl (λ a b c d p q. add-le-add p q) e l t ts least-bounds greatest-among in
      let high = sum-among (λ a b. b ≤ a) le_refl (λ a b c d p q. add-le-add p q) l e t ts greatest-bounds least-among in
      record { order = le_trans least-bounds.0 greatest-bounds.0; least = rw one low; most = rw one high }

-- ---- the test
pub span-is : (n e l s : ℕ) → span_ok n e l s ≡ true → CanSpan n e l s
span-is n e l s h =
    record {
      order = leb-true e l (both-0 _ _ h);
      least = leb-true (l + (n - 1) * e) s (both-0 _ _ (both-1 _ _ h));
      most = leb-true s (e + (n - 1) * l) (both-1 _ _ (both-1 _ _ h));
    }

pub span_of : (n e l s : ℕ) → CanSpan n e l s → span_ok n e l s ≡ true
span_of n e l s h = both_true _ _ (le-leb _ _ h.order) (both_true _ _ (le-leb _ _ h.least) (le-leb _ _ h.most))
