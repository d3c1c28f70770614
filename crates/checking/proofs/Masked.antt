-- The number of propositions by the masks' rule. Assumes nothing.
use mathlib.Core.Path.{◌≡◌, refl, sym, ◌∙◌}
use mathlib.Core.Bool.{Bool, true, false}
use mathlib.Core.List.{List}
use Prim.Native.Nat.{ℕ, ◌<◌, ◌≤◌}
use native.Mathlib.Omega.{arith}
use native.Mathlib.Decide.{dec_lt}
use lib.Dec.{leb}
use borrow.Author.Tests.{le-leb, lt-leb, leb-true}
use Rattle.lists.specs.Tests.{pick, both, in_range}
use Rattle.lists.proofs.Tests.{both-0}
use Rattle.masks.specs.Masks.{sum_ones, masks_rule}
use Rattle.state.specs.Fields.{masks_in}
use Rattle.state.specs.Clauses.{masks_ok}
use Rattle.limits.specs.Limits.{propositions_most}
use Rattle.checking.specs.Masked.{propositions_in}
use Rattle.records.proofs.Each.{both_false, range-most}

module _ (s : List ℕ) where
  pub ones-many : propositions_most < sum_ones (masks_in s) → propositions_in s ≡ 0
  unfolding propositions_in masks_ok pick both
  ones-many h = rw (lt-leb (sum_ones (masks_in s)) propositions_most h, both_false (leb 1 (sum_ones (masks_in s))))

  pub rule-broken : masks_rule (sum_ones (masks_in s)) (masks_in s) ≡ false → propositions_in s ≡ 0
  unfolding propositions_in masks_ok pick
  rule-broken e = rw (e, both_false (in_range propositions_most (sum_ones (masks_in s))))

  pub rule-kept : sum_ones (masks_in s) ≤ propositions_most → masks_rule (sum_ones (masks_in s)) (masks_in s) ≡ true → sum_ones (masks_in s) ≡ propositions_in s
  unfolding propositions_in masks_ok pick both
  rule-kept h e =
      elim (dec_lt 0 (sum_ones (masks_in s))) [
        | yes l ↦ rw (le-leb 1 (sum_ones (masks_in s)) l, le-leb (sum_ones (masks_in s)) propositions_most h, e)
        | no l ↦ (let z : sum_ones (masks_in s) ≡ 0 = omega arith in z ∙ sym (zero-picked (masks_ok s) z))
      ]
    where
      zero-picked : (b : Bool) → sum_ones (masks_in s) ≡ 0 → pick b (sum_ones (masks_in s)) 0 ≡ 0
      zero-picked true z = z
      zero-picked false z = refl

  pub propositions-none : propositions_in s < 1 → masks_ok s ≡ false
  unfolding propositions_in pick masks_ok
  propositions-none h = go (masks_ok s) refl h
    where
      go : (b : Bool) → masks_ok s ≡ b → pick b (sum_ones (masks_in s)) 0 < 1 → b ≡ false
      go true e l = let z = leb-true 1 (sum_ones (masks_in s)) (both-0 (leb 1 (sum_ones (masks_in s))) (leb (sum_ones (masks_in s)) propositions_most) (both-0 _ _ e)) in absurd (omega arith)
      go false e l = refl

  pub record MasksRuled (p : ℕ) : Type 0 where
    pub holds : masks_ok s ≡ true
    pub sum : p ≡ sum_ones (masks_in s)
    pub few : p ≤ propositions_most

  pub propositions-some : (p : ℕ) → p ≡ propositions_in s → 1 ≤ p → MasksRuled p
  unfolding propositions_in pick masks_ok
  propositions-some p q h = go (masks_ok s) refl q
    where
      go : (b : Bool) → masks_ok s ≡ b → p ≡ pick b (sum_ones (masks_in s)) 0 → MasksRuled p
      go true e r = let z = range-most propositions_most (sum_ones (masks_in s)) (both-0 _ _ e) in record { holds = e; sum = r; few = omega arith }
      go false e r = absurd (omega arith)
