-- The network is spread out, and what was spread is stored with one more tick. Assumes nothing.
use mathlib.Core.Path.{sym, ap}
use Prim.Native.Nat.{ℕ, ◌+◌}
use lib.Seq.{length-take-le}
use Rattle.records.proofs.Opened.{opened-sized}
use Rattle.renewing.proofs.Renewing.{spread-ask, state-ask, next-put}
use Rattle.renewing.proofs.put_next.Goals as goal

pub ticks_of-ticks-requires : goal.ticks_of-ticks-requires
ticks_of-ticks-requires c = (opened-sized c.requires.known.opened).long

pub spread-n-requires : goal.spread-n-requires
spread-n-requires c = spread-ask c.requires

pub slice_bounds-put_state-end-2 : goal.slice_bounds-put_state-end-2
slice_bounds-put_state-end-2 c = sym (length-take-le _ _ c.spread-n.ensures.inside)

pub put_state-requires : goal.put_state-requires
put_state-requires c = state-ask c.requires c.spread-n.ensures

pub returns : goal.returns
returns c = next-put c.requires c.spread-n.ensures (ap (λ (n : ℕ). n + 1) c.ticks_of-ticks.ensures) c.put_state.ensures
