-- Laying a slot looks at its parts, a part that is cut is laid as a slot, and laying that one looks at its parts: each stands behind the one
-- that it is a part of, at a later node or further on at the same one, so that the calls end. The slot's own tokens are laid by a loop
-- whose turn is a law of `Loops`. Assumes nothing.
use Rattle.std.proofs.Common.{◌+◌, ◌*◌, ◌-◌, ◌%◌, length}
use Rattle.separating.proofs.Loops.{LoopState}
use Rattle.separating.proofs.+cut_parts_lay_slot_look.Given as goal

abbrev pub decreases-cut_parts : goal.decreases-cut_parts
decreases-cut_parts l = 3 * (4 * length l.u.now - l.part % 4)

abbrev pub decreases-lay_slot : goal.decreases-lay_slot
decreases-lay_slot l = 3 * (4 * length l.u.now - l.part % 4) + 1

abbrev pub decreases-look : goal.decreases-look
decreases-look l = 3 * (4 * length l.u.now - l.part % 4) + 2

abbrev pub invariant-cut_parts-loop-x : goal.invariant-cut_parts-loop-x
invariant-cut_parts-loop-x l =
    LoopState l.u l.bytes l.marks l.held l.part l.board l.room l.entries l.n l.initial.desk l.initial.bodies l.initial.places l.initial.stamps l.desk l.bodies l.places l.stamps l.x

abbrev pub decreases-cut_parts-loop-x : goal.decreases-cut_parts-loop-x
decreases-cut_parts-loop-x l = l.n - l.x.written
