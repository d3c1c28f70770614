-- The owner that a proposition has once the masks left were looked at stays the same (`assigned-more`); at the end none is left.
-- `owns` says what the table is then. Assumes nothing.
use mathlib.Core.Path.{◌≡◌}
use Prim.Native.Nat.{ℕ}
use lib.ListN.{get_or, drop}
use Rattle.scores.proofs.Assigned.{assigned}
use Rattle.scores.proofs.owners.Given as goal

abbrev pub invariant-loop-board : goal.invariant-loop-board
invariant-loop-board l = ((i : ℕ) → assigned (get_or l.owner i 0) l.board (drop l.board l.masks) i ≡ assigned (get_or l.initial.owner i 0) 0 l.masks i)
