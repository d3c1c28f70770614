-- The choice among the boards looked at goes on to the choice among all: what `highest` gives from board b on, with the best board
-- and its count so far, which the key tells, stays the same. Assumes nothing.
use mathlib.Core.Path.{◌≡◌}
use mathlib.Core.Option.{none}
use Prim.Native.Nat.{◌/◌}
use lib.ListN.{drop}
use Rattle.limits.specs.Limits.{boards_most}
use Rattle.network.specs.Scores.{highest}
use Rattle.scores.proofs.Highest.{key_board, Before}
use Rattle.scores.proofs.Scores.choice.Given as goal

abbrev pub invariant-loop-b : goal.invariant-loop-b
invariant-loop-b l = Before l.b l.most × (highest (key_board l.most) (l.most / boards_most) l.b (drop l.b l.counts) ≡ highest none 0 0 l.counts)
