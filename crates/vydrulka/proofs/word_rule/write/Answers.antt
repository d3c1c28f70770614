-- The file stands within the buffer. Assumes nothing.
use Rattle.std.proofs.Common.{refl, arith}
use Rattle.vydrulka.proofs.Few.{written-few}
use Rattle.vydrulka.proofs.word_rule.write.Goals as goal

pub slice_bounds-result-end : goal.slice_bounds-result-end
slice_bounds-result-end c =
    let few = written-few _ _ _ _ _ _ _ refl c.in-Ok.ensures in
    let long = c.write-answer.auto.file in
    omega arith
