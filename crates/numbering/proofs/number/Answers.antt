-- What the survey has left is the order, level by level. Assumes nothing.
use mathlib.Core.Path.{sym}
use lib.Seq.{length-take-le}
use Rattle.limits.specs.Limits.{slots_room}
use Rattle.lists.proofs.Stretches.{zeros-at}
use Rattle.numbering.proofs.Surveys.{survey-ask, levels-ask, numbers-few, numbers-below, number-done}
use native.Mathlib.Omega.{arith}
use Rattle.numbering.proofs.number.Goals as goal

pub survey-count-requires : goal.survey-count-requires
survey-count-requires c = survey-ask _ _ c.requires (omega arith) (omega arith) (zeros-at slots_room)

pub slice_bounds-put_levels-end : goal.slice_bounds-put_levels-end
slice_bounds-put_levels-end c =
    let f = c.survey-count.ensures.few in let k = c.survey-count.auto.row in
    sym (length-take-le c.survey-count.result c.survey-count.new.row (omega arith))

pub put_levels-requires : goal.put_levels-requires
put_levels-requires c = levels-ask c.requires c.survey-count.ensures (omega arith)

pub slice_bounds-put_numbers-end-2 : goal.slice_bounds-put_numbers-end-2
slice_bounds-put_numbers-end-2 c =
    let p = c.requires.order-room in let q = c.requires.graph.linked.few in
    let k = c.put_levels.auto.order in sym (length-take-le c.args.n c.put_levels.new.order (omega arith))

pub put_numbers-requires : goal.put_numbers-requires
put_numbers-requires c =
    let p = c.requires in let s = c.survey-count.ensures in
    (numbers-few p s _ c.put_levels.ensures, numbers-below p s _ c.put_levels.ensures)

pub returns : goal.returns
returns c = number-done c.requires c.survey-count.ensures _ c.put_levels.ensures _ c.put_numbers.ensures
