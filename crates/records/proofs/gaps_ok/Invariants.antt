use mathlib.Core.Path.{◌≡◌}
use mathlib.Core.Bool.{true}
use Rattle.state.specs.Clauses.{each_below, gap_ok}
use Rattle.records.proofs.gaps_ok.Given as goal

abbrev pub invariant-loop-k : goal.invariant-loop-k
invariant-loop-k l = each_below l.k (gap_ok l.s) ≡ true
