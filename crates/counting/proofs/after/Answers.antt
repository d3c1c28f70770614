-- A place holder's entries are read and added; other nodes are passed over. Assumes nothing.
use Prim.Native.Nat.{◌-◌}
use Rattle.kinds.specs.Kinds.{hold_code}
use Rattle.counting.proofs.Adding.{after-low, after-high}
use native.Mathlib.Omega.{arith}
use Rattle.counting.proofs.after.Goals as goal

pub returns-then-b-lt-HOLD : goal.returns-then-b-lt-HOLD
returns-then-b-lt-HOLD c = after-low c.args.slots.now c.args.nodes.now c.args.b c.args.t c.if-b-lt-HOLD.true c.requires.2 c.requires.3

pub together-requires : goal.together-requires
together-requires c = let x = c.shared_slice_known-3-1.given (c.args.b - hold_code) in let y = c.shared_slice_known-4-1.given (c.args.b - hold_code) in (omega arith, omega arith)

pub returns : goal.returns
returns c = let a = c.args in after-high a.slots.now a.nodes.now a.b a.t c.if-b-lt-HOLD.false c.together.result c.together.ensures.0 c.together.ensures.1
