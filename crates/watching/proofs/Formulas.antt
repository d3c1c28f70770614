-- Formulas of slots as laying and stepping leave them, and the tests of the state check: a plain formula is clean (`plain-clean`); a
-- clean one has propositions below p alone (`clean-within`); and a headed one is no lone proposition of another board (`headed-own`).
-- Assumes nothing.
use mathlib.Core.Path.{◌≡◌, refl, ap}
use mathlib.Core.Bool.{true, false, not}
use mathlib.Core.List.{List}
use mathlib.Core.Option.{Option}
use Prim.Native.Nat.{ℕ, ◌<◌, ◌≤◌}
use lib.ListN.{get_or}
use Rattle.limits.specs.Limits.{propositions_most}
use Rattle.kinds.specs.declared.Leaf.TheVariants.{Const, Prop, Hold}
use Rattle.kinds.specs.declared.Unary.TheVariants.{Not, Next, Ever}
use Rattle.kinds.specs.declared.Binary.TheVariants.{Joined, Until}
use Rattle.ltl.specs.Formula.{Formula, leaf, one, two, Within}
use Rattle.masks.specs.Masks.{masks_rule}
use Rattle.network.specs.Scores.{chosen}
use Rattle.network.proofs.Owned.{Clean, Headed, Plain}
use Rattle.network.proofs.Laying.{HoldsIn}
use Rattle.network.proofs.Choosing.{masks-has, masks-below}
use Rattle.state.specs.Clauses.{lone_other}
use Rattle.checked.proofs.Fitting.{free-within}

module _ (choose : Formula → Option ℕ) where
  pub plain-clean : (b : ℕ) (f : Formula) → Plain choose b f → Clean choose f
  plain-clean b (leaf (Const v)) x = tt
  plain-clean b (leaf (Prop i)) x = (b, x)
  plain-clean b (leaf (Hold m)) x = tt
  plain-clean b (one Not f) x = plain-clean b f x
  plain-clean b (one Next f) x = x.0
  plain-clean b (two (Joined j) f g) x = (plain-clean b f x.0, plain-clean b g x.1)
  plain-clean b (one (Ever _) f) x = elim x [ ]
  plain-clean b (two Until f g) x = elim x [ ]

module _ (p : ℕ) (masks : List ℕ) (few : p ≤ propositions_most) (rule : masks_rule p masks ≡ true) where
  pub clean-within : (end : ℕ) (f : Formula) → Clean (chosen masks) f → HoldsIn (λ m. m < end) f → Within p end f
  clean-within end (leaf (Const v)) x h = tt
  clean-within end (leaf (Prop i)) x h = masks-below p masks few rule i x.0 (masks-has masks i x.0 x.1)
  clean-within end (leaf (Hold m)) x h = h
  clean-within end (one Not f) x h = clean-within end f x h
  clean-within end (one Next f) x h = free-within p masks few rule end f x
  clean-within end (one (Ever j) f) x h = free-within p masks few rule end f x
  clean-within end (two (Joined j) f g) x h = (clean-within end f x.0 h.0, clean-within end g x.1 h.1)
  clean-within end (two Until f g) x h = (free-within p masks few rule end f x.0, free-within p masks few rule end g x.1)

pub headed-own : (masks : List ℕ) (b : ℕ) (f : Formula) → Headed (chosen masks) b f → lone_other (get_or masks b 0) f ≡ false
unfolding lone_other
headed-own masks b (leaf (Const v)) x = refl
headed-own masks b (leaf (Prop i)) x = ap not (masks-has masks i b x)
headed-own masks b (leaf (Hold m)) x = refl
headed-own masks b (one o f) x = refl
headed-own masks b (two o f g) x = refl
