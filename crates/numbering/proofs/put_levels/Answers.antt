use Rattle.numbering.proofs.Placing.{placing-start, level-few, placing-few, placing-ask, placing-more, placing-done}
use native.Mathlib.Omega.{arith}
use Rattle.numbering.proofs.put_levels.Goals as goal

pub loop-placed-init : goal.loop-placed-init
loop-placed-init c = placing-start c.requires

pub put_level-placed-requires : goal.put_level-placed-requires
put_level-placed-requires c = placing-ask c.requires c.loop-placed.invariant c.loop-placed-test.true

pub overflow_add-level : goal.overflow_add-level
overflow_add-level c = let h = level-few c.requires c.loop-placed.invariant c.loop-placed-test.true in omega arith

pub loop-placed-smaller : goal.loop-placed-smaller
loop-placed-smaller c = let h = placing-few c.requires c.loop-placed.invariant c.loop-placed-test.true in omega arith

pub loop-placed-preserved : goal.loop-placed-preserved
loop-placed-preserved c =
    placing-more c.requires c.loop-placed.invariant c.loop-placed-test.true _ _ c.put_level-placed.ensures c.put_level-placed.auto.order

pub returns : goal.returns
returns c = placing-done c.requires c.loop-placed.invariant c.loop-placed-test.false
