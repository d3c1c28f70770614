-- One pass over bytes with a count of the operands still owed: the shape of the loop in `is_formula`. What it means is
-- `is_formula`; proofs/Scans.antt has the law. Assumes nothing: these are definitions.
use Rattle.std.specs.Prelude.{ℕ, zero, suc, ◌+◌, Bool, false, List, [], ◌∷◌, eqb}
use Rattle.lists.specs.Tests.{pick}
use Rattle.kinds.specs.Kinds.{kind_of, operands}
use Rattle.ltl.specs.Formula.{node_over}

-- exactly n formulas, one behind the other, with propositions below p and place holders below z
unfoldable pub scan : ℕ → ℕ → List ℕ → ℕ → Bool
scan p z [] n = eqb n 0
scan p z (b ∷ l) zero = false
scan p z (b ∷ l) (suc n) = pick (node_over p z (kind_of b)) (scan p z l (n + operands (kind_of b))) false
