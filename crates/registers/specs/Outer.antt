-- How many tokens a formula takes: its nodes outside next, next with all that stands under it being one. Assumes nothing: these are
-- definitions.
use Rattle.std.specs.Prelude.{ℕ, ◌+◌, List, [], ◌∷◌}
use Rattle.kinds.specs.declared.Unary.TheVariants.{Not, Next, Ever}
use Rattle.kinds.specs.declared.Binary.TheVariants.{Joined, Until}
use Rattle.ltl.specs.Formula.{Formula, leaf, one, two}
use Rattle.network.specs.Layout.{Slot}

abbrev pub outer : Formula → ℕ
outer (leaf a) = 1
outer (one Not f) = 1 + outer f
outer (one Next f) = 1
outer (one (Ever j) f) = 1
outer (two (Joined j) f g) = 1 + outer f + outer g
outer (two Until f g) = 1

-- of a row of slots
abbrev pub outer_sum : List Slot → ℕ
outer_sum [] = 0
outer_sum (s ∷ ss) = outer s.formula + outer_sum ss
