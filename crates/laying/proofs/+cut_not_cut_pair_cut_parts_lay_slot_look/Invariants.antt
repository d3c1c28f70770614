-- Each function hands on what the laws of `Parts` and `Slots` say it may ask, with fewer nodes left to read or on the way to a part
-- that has fewer; the numbers in between are those of `Room`, and each return is a law of `Cutting`. Assumes nothing.
use Prim.Native.Nat.{◌+◌, ◌*◌}
use lib.ListN.{length}
use Rattle.laying.proofs.+cut_not_cut_pair_cut_parts_lay_slot_look.Given as goal

-- what falls from call to call of the cycle
abbrev pub decreases-cut_not : goal.decreases-cut_not
decreases-cut_not l = 4 * length l.u.now

abbrev pub decreases-cut_pair : goal.decreases-cut_pair
decreases-cut_pair l = 4 * length l.u.now

abbrev pub decreases-cut_parts : goal.decreases-cut_parts
decreases-cut_parts l = 4 * length l.u.now + 1

abbrev pub decreases-lay_slot : goal.decreases-lay_slot
decreases-lay_slot l = 4 * length l.u.now + 2

abbrev pub decreases-look : goal.decreases-look
decreases-look l = 4 * length l.u.now + 3
