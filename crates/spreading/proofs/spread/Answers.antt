use Rattle.tagging.proofs.Packing.{ahead-fits}
use Rattle.spreading.proofs.Turns.{first-ask, first-turn, turn-past, turn-as}
use Rattle.spreading.proofs.Putting.{Holder, inside-tags, holder-few, holder-ask, put-inside, turn-put}
use Rattle.spreading.proofs.Done.{spread-done}
use native.Mathlib.Omega.{arith}
use Rattle.spreading.proofs.spread.Goals as goal
use Rattle.spreading.proofs.spread.Goals.{then-b-ge-HOLD, else-b-ge-HOLD}

pub loop-i-init : goal.loop-i-init
loop-i-init c = let p = c.put_slot-end in first-turn c.requires p.ensures p.auto.u p.auto.tags

pub put_slot-end-requires : goal.put_slot-end-requires
put_slot-end-requires c = first-ask c.requires

pub with_ahead-requires : goal.with_ahead-requires
with_ahead-requires c =
    let holder : let a = c.args in Holder a.state.now a.c a.owner.now c.loop-i.u c.loop-i.tags c.loop-i.i c.loop-i.end = record { known = c.requires.known; turn = c.loop-i.invariant; before = c.loop-i-test.true; big = c.if-b-ge-HOLD.true } in
    let t = holder.turn.inside in ahead-fits _ (omega arith)

pub overflow_cast-b : goal.overflow_cast-b
overflow_cast-b c =
    let holder : let a = c.args in Holder a.state.now a.c a.owner.now c.loop-i.u c.loop-i.tags c.loop-i.i c.loop-i.end = record { known = c.requires.known; turn = c.loop-i.invariant; before = c.loop-i-test.true; big = c.if-b-ge-HOLD.true } in
    let h = holder-few holder in omega arith

pub slice_bounds-put_slot-count-then-b-ge-HOLD : goal.slice_bounds-put_slot-count-then-b-ge-HOLD
slice_bounds-put_slot-count-then-b-ge-HOLD c =
    let holder : let a = c.args in Holder a.state.now a.c a.owner.now c.loop-i.u c.loop-i.tags c.loop-i.i c.loop-i.end = record { known = c.requires.known; turn = c.loop-i.invariant; before = c.loop-i-test.true; big = c.if-b-ge-HOLD.true } in
    inside-tags holder _

pub slice_bounds-put_slot-start-then-b-ge-HOLD : goal.slice_bounds-put_slot-start-then-b-ge-HOLD
slice_bounds-put_slot-start-then-b-ge-HOLD c =
    let holder : let a = c.args in Holder a.state.now a.c a.owner.now c.loop-i.u c.loop-i.tags c.loop-i.i c.loop-i.end = record { known = c.requires.known; turn = c.loop-i.invariant; before = c.loop-i-test.true; big = c.if-b-ge-HOLD.true } in
    inside-tags holder _

pub put_slot-end-requires-then-b-ge-HOLD : goal.put_slot-end-requires-then-b-ge-HOLD
put_slot-end-requires-then-b-ge-HOLD c =
    let holder : let a = c.args in Holder a.state.now a.c a.owner.now c.loop-i.u c.loop-i.tags c.loop-i.i c.loop-i.end = record { known = c.requires.known; turn = c.loop-i.invariant; before = c.loop-i-test.true; big = c.if-b-ge-HOLD.true } in
    holder-ask holder _

pub overflow_add-end : goal.overflow_add-end
overflow_add-end c =
    let holder : let a = c.args in Holder a.state.now a.c a.owner.now c.loop-i.u c.loop-i.tags c.loop-i.i c.loop-i.end = record { known = c.requires.known; turn = c.loop-i.invariant; before = c.loop-i-test.true; big = c.if-b-ge-HOLD.true } in
    let t = put-inside holder c.put_slot-end-then-b-ge-HOLD.ensures in omega arith

pub loop-i-preserved : goal.loop-i-preserved
loop-i-preserved c =
    let l = c.loop-i-test.true in
    elim c.if-b-ge-HOLD.branch [
      | then-b-ge-HOLD w ↦
          let p = w.put_slot-end-then-b-ge-HOLD in
          turn-as (turn-put (record { known = c.requires.known; turn = c.loop-i.invariant; before = l; big = w.if-b-ge-HOLD.true }) p.ensures p.auto.u _ p.auto.tags w.with_ahead.ensures)
          w.u-is w.tags-is w.end-is
      | else-b-ge-HOLD w ↦ turn-as (turn-past c.loop-i.invariant l w.if-b-ge-HOLD.false) w.u-is w.tags-is w.end-is
    ]

pub returns : goal.returns
returns c = spread-done _ c.requires.known.opened.passes c.loop-i.invariant c.loop-i-test.false
