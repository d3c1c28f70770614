use mathlib.Core.Path.{◌≡◌}
use mathlib.Core.Bool.{true}
use lib.Dec.{eqb}
use Rattle.state.specs.Fields.{stepped_in}
use Rattle.state.specs.Clauses.{each_below}
use Rattle.done.proofs.all_stepped.Given as goal

abbrev pub invariant-loop-k : goal.invariant-loop-k
invariant-loop-k l = each_below l.k (λ k. eqb (stepped_in l.s k) 1) ≡ true
