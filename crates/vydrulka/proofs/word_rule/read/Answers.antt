-- The room has as many bytes as were asked for, which are counted by a law: there are too many to look at. Assumes nothing.
use Rattle.std.proofs.Common.{ℕ, sym}
use lib.ListN.{length-replicate}
use Rattle.vydrulka.proofs.word_rule.read.Goals as goal

pub slice_bounds-read_into-end : goal.slice_bounds-read_into-end
slice_bounds-read_into-end c = sym (length-replicate {0} {A = ℕ} 1048577 0)
