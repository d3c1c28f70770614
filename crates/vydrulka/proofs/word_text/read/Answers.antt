-- Masks and nodes stand within their buffers. Assumes nothing.
use Rattle.std.proofs.Common.{refl, arith}
use Rattle.vydrulka.proofs.Few.{read-few}
use Rattle.vydrulka.proofs.word_text.read.Goals as goal

pub slice_bounds-print-end : goal.slice_bounds-print-end
slice_bounds-print-end c =
    let few = read-few _ _ _ _ _ _ _ refl c.in-Ok.ensures in
    let long = c.read-answer.auto.masks in
    omega arith

pub slice_bounds-print-end-in-Ok : goal.slice_bounds-print-end-in-Ok
slice_bounds-print-end-in-Ok c =
    let few = read-few _ _ _ _ _ _ _ refl c.in-Ok.ensures in
    let long = c.read-answer.auto.formula in
    omega arith
