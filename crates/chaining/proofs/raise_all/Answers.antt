use mathlib.Core.Path.{refl}
use Rattle.chaining.proofs.Raising.{raising-start, raising-more, raising-done}
use native.Mathlib.Omega.{arith}
use Rattle.chaining.proofs.raise_all.Goals as goal

pub loop-j-init : goal.loop-j-init
loop-j-init c = raising-start c.args.sets.now _ c.args.chain.now _ c.requires.zero-chains c.raise.ensures

pub loop-j-preserved : goal.loop-j-preserved
loop-j-preserved c =
    let r = c.raise-in-loop-j in
    raising-more r.new.chain _ c.loop-j.invariant (omega arith) refl r.ensures r.auto.chain

pub returns : goal.returns
returns c = raising-done c.loop-j.invariant (omega arith)
