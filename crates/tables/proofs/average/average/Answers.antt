-- Whole ticks and the tenths of the rest are those of the definition (`whole_is`, `tenths-is`). Assumes nothing.
use native.Mathlib.Nat.{mod-lt}
use native.Mathlib.Omega.{arith}
use Rattle.tables.proofs.Averages.{whole_is, tenths-is, whole-fits}
use Rattle.tables.proofs.average.average.Goals as goal

pub tenths-rest-requires : goal.tenths-rest-requires
tenths-rest-requires c = (mod-lt _ c.requires.0, c.requires.1)

pub overflow_add-result : goal.overflow_add-result
overflow_add-result c = let fits = whole-fits c.args.sum c.args.falses c.requires.0 _ c.tenths-rest.ensures c.ranges.sum.fits in omega arith

pub returns : goal.returns
returns c = let some = c.requires.0 in (whole_is _ _ some _ c.tenths-rest.ensures, tenths-is _ _ some _ c.tenths-rest.ensures)
