-- The slot's bytes are lent, and counted on its board. Assumes nothing.
use Rattle.checked.proofs.Lying.{Lying}
use Rattle.counting.proofs.Slots.{slot-numbers, formula-ask, slot_counted}
use Rattle.counting.proofs.count_slot.Goals as goal

pub span_of-from-requires : goal.span_of-from-requires
span_of-from-requires c =
    let numbers : Lying c.args.state.now c.args.c c.args.k = slot-numbers c.requires.0 c.requires.1 in
    let y = (numbers).there in (y.sized, y.number, y.stretch)

pub board_of-board-requires : goal.board_of-board-requires
board_of-board-requires c =
    let numbers : Lying c.args.state.now c.args.c c.args.k = slot-numbers c.requires.0 c.requires.1 in
    let y = (numbers).there in (y.sized, y.number)

pub count_formula-requires : goal.count_formula-requires
count_formula-requires c =
    let p = c.requires in
    formula-ask p.0 p.1 c.span_of-from.ensures c.board_of-board.ensures p.2

pub returns : goal.returns
returns c =
    let p = c.requires in
    slot_counted p.0 p.1 c.span_of-from.ensures c.count_formula.result c.board_of-board.ensures c.count_formula.ensures
