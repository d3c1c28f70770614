-- The numbers in a slot of a state that passes, unfolded, are within the state's (`slot-within`) and have codes (`slot-coded`). Assumes
-- nothing.
use mathlib.Core.Path.{◌≡◌}
use mathlib.Core.Bool.{true}
use mathlib.Core.List.{List}
use Prim.Native.Nat.{ℕ, ◌<◌}
use Rattle.limits.specs.Limits.{propositions_most, holder_codes}
use Rattle.ltl.specs.Formula.{Within, Coded}
use Rattle.ltl.proofs.Decoding.{unfolded-coded}
use Rattle.masks.specs.Masks.{sum_ones}
use Rattle.state.specs.Fields.{slots_in, masks_in}
use Rattle.state.specs.Clauses.{state_ok}
use Rattle.state.specs.Bytes.{formula_at}
use Rattle.checked.proofs.Passing.{passing}
use Rattle.carrying.specs.Carries.{unfolded_at}

module _ (s : List ℕ) (ok : state_ok s ≡ true) (m : ℕ) (l : m < slots_in s) where
  pub slot-within : Within (sum_ones (masks_in s)) (slots_in s) (unfolded_at s m)
  slot-within = unfolded-coded (sum_ones (masks_in s)) (slots_in s) (formula_at s m) ((passing s ok).slots m l).within

  pub slot-coded : Coded (unfolded_at s m)
  slot-coded = unfolded-coded propositions_most holder_codes (formula_at s m) ((passing s ok).slots m l).coded
