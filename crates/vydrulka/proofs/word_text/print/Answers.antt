-- The text stands within its room. Assumes nothing.
use native.Mathlib.Omega.{arith}
use lib.Seq.{length-take-le}
use Rattle.std.proofs.Common.{refl, sym}
use Rattle.vydrulka.proofs.Few.{printed-within}
use Rattle.vydrulka.proofs.word_text.print.Goals as goal

pub slice_bounds-text-end : goal.slice_bounds-text-end
slice_bounds-text-end c =
    let few = printed-within _ _ _ _ _ refl c.in-Ok.ensures in
    let long = c.print.auto.text in
    omega arith

pub slice_bounds-finish-end : goal.slice_bounds-finish-end
slice_bounds-finish-end c =
    let few = printed-within _ _ _ _ _ refl c.in-Ok.ensures in
    let long = c.print.auto.text in
    sym (length-take-le c.in-Ok.length _ (omega arith))
