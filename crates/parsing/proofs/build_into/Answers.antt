-- The first bytes of the buffer are lent on, and the rest is cleared. No loop. Assumes nothing.
use mathlib.Core.Path.{sym}
use Rattle.parsing.proofs.Parts.{lent-long, lent-count, built-into}
use Rattle.parsing.proofs.build_into.Goals as goal

pub slice_bounds-build-end : goal.slice_bounds-build-end
slice_bounds-build-end c = c.requires.few

pub slice_bounds-build-end-2 : goal.slice_bounds-build-end-2
slice_bounds-build-end-2 c = sym (lent-long c.requires)

pub build-requires : goal.build-requires
build-requires c = lent-count c.requires

pub returns : goal.returns
returns c = built-into c.requires c.build.new.out c.build.auto.out c.build.ensures c.clear.new.p c.clear.ensures
