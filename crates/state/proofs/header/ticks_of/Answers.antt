-- The last field of the header. Assumes nothing.
use native.Mathlib.Omega.{arith}
use Rattle.state.proofs.Places.{head-within}
use Rattle.state.proofs.header.ticks_of.Goals as goal

pub u32_at-requires : goal.u32_at-requires
u32_at-requires c = let w = head-within c.args.s.now c.requires in omega arith
