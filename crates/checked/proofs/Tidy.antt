-- From the tests of a slot's formula to what laying asks of it, and back. `tidy-only`: a test of each place holder of a tidy formula;
-- `tidy-clean`: a tidy formula is clean; `lone-top`: no lone proposition of another board stands there. Assumes nothing.
use mathlib.Core.Path.{◌≡◌}
use mathlib.Core.Bool.{Bool, true, false}
use mathlib.Core.List.{List}
use Prim.Native.Nat.{ℕ, ◌≤◌}
use lib.ListN.{get_or}
use borrow.Author.Tests.{not-false}
use Rattle.lists.specs.Tests.{bit}
use Rattle.lists.proofs.Tests.{no_true, both-0, both-1, both_true}
use Rattle.limits.specs.Limits.{propositions_most}
use Rattle.kinds.specs.declared.Leaf.TheVariants.{Const, Prop, Hold}
use Rattle.kinds.specs.declared.Unary.TheVariants.{Not, Next, Ever}
use Rattle.kinds.specs.declared.Binary.TheVariants.{Joined, Until}
use Rattle.ltl.specs.Formula.{Formula, leaf, one, two, Within}
use Rattle.masks.specs.Masks.{masks_rule}
use Rattle.network.specs.Scores.{chosen}
use Rattle.network.specs.Tick.{holds_only}
use Rattle.network.proofs.Owned.{Free, Clean, OwnTop}
use Rattle.network.proofs.Laying.{HoldsIn}
use Rattle.network.proofs.Choosing.{masks-free, masks-mine}
use Rattle.state.specs.Clauses.{tidy, lone_other}

-- ---- tests of place holders
module _ (test : ℕ → Bool) where
  -- where there is none, any test holds
  none_only : (f : Formula) → holds_only (λ m. false) f ≡ true → holds_only test f ≡ true
  unfolding holds_only
  none_only (leaf (Const v)) e = e
  none_only (leaf (Prop i)) e = e
  none_only (leaf (Hold m)) e = absurd (no_true e)
  none_only (one o f) e = none_only f e
  none_only (two o f g) e = both_true _ _ (none_only f (both-0 _ _ e)) (none_only g (both-1 _ _ e))

  pub tidy-only : (f : Formula) → tidy f ≡ true → HoldsIn (λ m. test m ≡ true) f → holds_only test f ≡ true
  unfolding holds_only tidy
  tidy-only (leaf (Const v)) e h = e
  tidy-only (leaf (Prop i)) e h = e
  tidy-only (leaf (Hold m)) e h = h
  tidy-only (one Not f) e h = tidy-only f e h
  tidy-only (one Next f) e h = none_only f e
  tidy-only (one (Ever j) f) e h = none_only f e
  tidy-only (two (Joined j) f g) e h = both_true _ _ (tidy-only f (both-0 _ _ e) h.0) (tidy-only g (both-1 _ _ e) h.1)
  tidy-only (two Until f g) e h = both_true _ _ (none_only f (both-0 _ _ e)) (none_only g (both-1 _ _ e))

-- ---- with masks that follow their rule
module _ (p : ℕ) (masks : List ℕ) (few : p ≤ propositions_most) (rule : masks_rule p masks ≡ true) where
  none_free : (end : ℕ) (f : Formula) → Within p end f → holds_only (λ m. false) f ≡ true → Free (chosen masks) f
  unfolding holds_only
  none_free end (leaf (Const v)) w e = tt
  none_free end (leaf (Prop i)) w e = masks-free p masks few rule (leaf (Prop i)) w
  none_free end (leaf (Hold m)) w e = absurd (no_true e)
  none_free end (one o f) w e = none_free end f w e
  none_free end (two o f g) w e = (none_free end f w.0 (both-0 _ _ e), none_free end g w.1 (both-1 _ _ e))

  pub tidy-clean : (end : ℕ) (f : Formula) → Within p end f → tidy f ≡ true → Clean (chosen masks) f
  unfolding tidy
  tidy-clean end (leaf (Const v)) w e = tt
  tidy-clean end (leaf (Prop i)) w e = masks-free p masks few rule (leaf (Prop i)) w
  tidy-clean end (leaf (Hold m)) w e = tt
  tidy-clean end (one Not f) w e = tidy-clean end f w e
  tidy-clean end (one Next f) w e = none_free end f w e
  tidy-clean end (one (Ever j) f) w e = none_free end f w e
  tidy-clean end (two (Joined j) f g) w e = (tidy-clean end f w.0 (both-0 _ _ e), tidy-clean end g w.1 (both-1 _ _ e))
  tidy-clean end (two Until f g) w e = (none_free end f w.0 (both-0 _ _ e), none_free end g w.1 (both-1 _ _ e))

  pub lone-top : (b : ℕ) (f : Formula) → lone_other (get_or masks b 0) f ≡ false → OwnTop (chosen masks) b f
  unfolding lone_other
  lone-top b (leaf (Const v)) e = tt
  lone-top b (leaf (Prop i)) e = masks-mine p masks few rule i b (not-false (bit (get_or masks b 0) i) e)
  lone-top b (leaf (Hold m)) e = tt
  lone-top b (one o f) e = tt
  lone-top b (two o f g) e = tt
