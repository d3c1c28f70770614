-- The first bytes of the output are lent on, and the rest is cleared. Assumes nothing.
use mathlib.Core.Path.{sym}
use Rattle.central.proofs.Progresses.{lent-long, lent-progressable, handed-fits, progress-done}
use native.Mathlib.Omega.{arith}
use Rattle.central.proofs.progress_into.Goals as goal

pub slice_bounds-progress_any-end : goal.slice_bounds-progress_any-end
slice_bounds-progress_any-end c = let r = c.requires.room in omega arith

pub slice_bounds-progress_any-end-2 : goal.slice_bounds-progress_any-end-2
slice_bounds-progress_any-end-2 c = sym (lent-long c.requires)

pub progress_any-n-requires : goal.progress_any-n-requires
progress_any-n-requires c = lent-progressable c.requires (lent-long c.requires)

pub slice_bounds-clear-count : goal.slice_bounds-clear-count
slice_bounds-clear-count c = let r = c.progress_any-n in handed-fits c.requires _ r.auto.p c.args.event c.no_slots-none.ensures _ r.ensures

pub slice_bounds-clear-start : goal.slice_bounds-clear-start
slice_bounds-clear-start c = let r = c.progress_any-n in handed-fits c.requires _ r.auto.p c.args.event c.no_slots-none.ensures _ r.ensures

pub returns : goal.returns
returns c = let r = c.progress_any-n in progress-done c.requires _ r.auto.p c.args.event c.no_slots-none.ensures _ r.ensures c.clear.ensures
