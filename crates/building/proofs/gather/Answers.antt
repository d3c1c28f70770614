use native.Mathlib.Omega.{arith}
use Rattle.building.proofs.Passes.{back-ready, back-all}
use Rattle.building.proofs.gather.Goals as goal

pub take_in-x-requires : goal.take_in-x-requires
take_in-x-requires c = back-ready c.loop-i.invariant c.loop-i-test.true c.from.ensures

pub returns : goal.returns
returns c = back-all c.loop-i.invariant (omega arith) c.pop.ensures c.pop.auto.out
