-- The rooms have as many bytes and events as were asked for, which are counted by a law: there are too many to look at. Assumes nothing.
use Rattle.std.proofs.Common.{ℕ, sym}
use lib.ListN.{length-replicate}
use Rattle.vydrulka.proofs.word_report.add_up.Goals as goal

pub slice_bounds-add_nights-end : goal.slice_bounds-add_nights-end
slice_bounds-add_nights-end c = sym (length-replicate {0} {A = ℕ} 786433 0)
