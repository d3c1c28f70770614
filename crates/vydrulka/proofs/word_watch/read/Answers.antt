-- The rooms have as many bytes and events as were asked for, which are counted by a law: there are too many to look at. Assumes nothing.
use Rattle.std.proofs.Common.{ℕ, sym}
use lib.ListN.{length-replicate}
use Rattle.vydrulka.proofs.word_watch.read.Goals as goal

pub slice_bounds-read_in-end : goal.slice_bounds-read_in-end
slice_bounds-read_in-end c = sym (length-replicate {0} {A = ℕ} 1200017 0)

pub slice_bounds-read_in-end-2 : goal.slice_bounds-read_in-end-2
slice_bounds-read_in-end-2 c = sym (length-replicate {0} {A = ℕ} 1200016 0)

pub slice_bounds-read_in-end-3 : goal.slice_bounds-read_in-end-3
slice_bounds-read_in-end-3 c = sym (length-replicate {0} {A = ℕ} 100000 0)

pub slice_bounds-read_in-end-4 : goal.slice_bounds-read_in-end-4
slice_bounds-read_in-end-4 c = sym (length-replicate {0} {A = ℕ} 100000 0)

pub read_in-requires : goal.read_in-requires
read_in-requires c = (record { reads = length-replicate {0} {A = ℕ} 1200017 0; writes = length-replicate {0} {A = ℕ} 1200016 0; marks-all = length-replicate {0} {A = ℕ} 100000 0 }, length-replicate {0} {A = ℕ} 100000 0)
