-- What the propositions left in the mask have yet to change stays the same (`own-more`): the lowest one is changed and cleared.
-- Each turn the mask is a smaller number. Assumes nothing.
use mathlib.Core.Path.{◌≡◌}
use Prim.Native.Nat.{ℕ}
use lib.ListN.{length, get_or}
use Rattle.lists.specs.Tests.{pick, bit}
use Rattle.limits.specs.Limits.{propositions_most}
use Rattle.scores.proofs.own.Given as goal

abbrev pub invariant-loop-left : goal.invariant-loop-left
invariant-loop-left l = (length l.owner ≡ propositions_most) × ((i : ℕ) → pick (bit l.left i) l.board (get_or l.owner i 0) ≡ pick (bit l.mask i) l.board (get_or l.initial.owner i 0))

abbrev pub decreases-loop-left : goal.decreases-loop-left
decreases-loop-left l = l.left
