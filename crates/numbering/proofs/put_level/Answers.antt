use lib.ListN.{length, get_or}
use Rattle.limits.specs.Limits.{slots_room}
use Prim.Native.Nat.{◌<◌}
use Rattle.meeting.proofs.Among.{among-at}
use Rattle.numbering.proofs.Placing.{leveling-start, leveling-past, leveling-room, leveling-put, leveling-as, leveling-done}
use native.Mathlib.Omega.{arith}
use Rattle.numbering.proofs.put_level.Goals as goal
use Rattle.numbering.proofs.put_level.Goals.{then-chain-k, else-chain-k}

pub loop-k-init : goal.loop-k-init
loop-k-init c = leveling-start c.requires

pub bounds-chain-k : goal.bounds-chain-k
bounds-chain-k c =
    let h : get_or c.args.met.now c.loop-k.k-index 0 < slots_room = c.requires.below _ (among-at c.args.met.now c.loop-k.k-index (omega arith)) in
    let t = c.requires.table in omega arith

pub bounds-order-w : goal.bounds-order-w
bounds-order-w c = leveling-room c.loop-k.invariant (omega arith) c.requires c.if-chain-k.true

pub loop-k-preserved : goal.loop-k-preserved
loop-k-preserved c =
    let l : c.loop-k.k-index < length c.args.met.now = omega arith in
    elim c.if-chain-k.branch [
      | then-chain-k w ↦ leveling-as (leveling-put c.loop-k.invariant l c.requires w.if-chain-k.true) w.order-is w.w-is
      | else-chain-k w ↦ leveling-as (leveling-past c.loop-k.invariant l w.if-chain-k.false) w.order-is w.w-is
    ]

pub returns : goal.returns
returns c = leveling-done c.requires c.loop-k.invariant (omega arith)
