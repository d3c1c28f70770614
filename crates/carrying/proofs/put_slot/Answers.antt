-- Where the slot lies is known of the state that was opened; its formula is unfolded to the front of u, and what was written is
-- tagged. Assumes nothing.
use mathlib.Core.Path.{sym}
use lib.Seq.{length-take-le}
use Rattle.counting.proofs.Slots.{slot-numbers}
use Rattle.carrying.proofs.Slots.{unfold-ask, written_is, tag-ask, slot-put}
use native.Mathlib.Omega.{arith}
use Rattle.carrying.proofs.put_slot.Goals as goal

pub span_of-from-requires : goal.span_of-from-requires
span_of-from-requires c =
    let y = (slot-numbers c.requires.known c.requires.there).there in (y.sized, y.number, y.stretch)

pub unfold_into-n-requires : goal.unfold_into-n-requires
unfold_into-n-requires c = unfold-ask c.requires c.span_of-from.ensures

pub board_of-board-requires : goal.board_of-board-requires
board_of-board-requires c =
    let y = (slot-numbers c.requires.known c.requires.there).there in (y.sized, y.number)

pub slice_bounds-tag-end : goal.slice_bounds-tag-end
slice_bounds-tag-end c =
    let p = c.requires in let a = written_is p c.span_of-from.ensures c.unfold_into-n.result c.unfold_into-n.ensures in let k = c.unfold_into-n.auto.out in omega arith

pub slice_bounds-tag-end-2 : goal.slice_bounds-tag-end-2
slice_bounds-tag-end-2 c =
    let p = c.requires in let a = written_is p c.span_of-from.ensures c.unfold_into-n.result c.unfold_into-n.ensures in let k = c.unfold_into-n.auto.out in
    sym (length-take-le _ _ (omega arith))

pub tag-requires : goal.tag-requires
tag-requires c =
    let u = c.unfold_into-n in tag-ask c.requires c.span_of-from.ensures u.result u.ensures u.auto.out

pub returns : goal.returns
returns c =
    slot-put c.requires c.span_of-from.ensures c.unfold_into-n.result c.unfold_into-n.ensures c.tag.result
    c.board_of-board.ensures c.tag.ensures
