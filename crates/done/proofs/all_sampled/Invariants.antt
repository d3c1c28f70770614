use mathlib.Core.Path.{◌≡◌}
use mathlib.Core.Bool.{true}
use lib.Dec.{eqb}
use Rattle.state.specs.Fields.{sampled_in}
use Rattle.state.specs.Clauses.{each_below}
use Rattle.done.proofs.all_sampled.Given as goal

abbrev pub invariant-loop-i : goal.invariant-loop-i
invariant-loop-i l = each_below l.i (λ k. eqb (sampled_in l.s k) 1) ≡ true
