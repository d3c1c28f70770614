-- The room has as many bytes as were asked for, which are counted by a law: there are too many to look at. Assumes nothing.
use Rattle.std.proofs.Common.{ℕ, sym}
use lib.ListN.{length-replicate}
use Rattle.replay.proofs.calls.report.Goals as goal

pub slice_bounds-report_in-end : goal.slice_bounds-report_in-end
slice_bounds-report_in-end c = sym (length-replicate {0} {A = ℕ} 786456 0)
