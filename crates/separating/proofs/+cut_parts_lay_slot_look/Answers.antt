-- The slot's own tokens: each turn of the loop is a law of `Loops`. A part laid as a slot of its own: its parts are cut, and where there was
-- room for them its tokens are entered; each return is a law of `Slots`. A part that is looked at, by its choice: it stays, and its top is
-- written; or it is laid as a slot on its choice, in the places of the desk that are left for it, and the place holder of its entry is
-- written over the first of them; each return is a law of `Turning`. Assumes nothing.
use Rattle.std.proofs.Common.{refl, sym, ◌∙◌, ◌+◌, ◌<◌, arith}
use lib.Seq.{length-take-le}
use Rattle.limits.specs.Limits.{slots_room}
use Rattle.registers.proofs.Outers.{outer-some}
use Rattle.parting.proofs.Standing.{part-inside}
use Rattle.separating.proofs.Stages.{lay-fits, look-room, look-fits}
use Rattle.separating.proofs.Loops.{loop-first, loop-ask, loop-turn, loop-done, next-asks, next-later, next-inside, next-written}
use Rattle.separating.proofs.Measures.{falls-part}
use Rattle.separating.proofs.Slots.{slot-over, slot-nodes, slot-asks, slot-lays}
use Rattle.separating.proofs.Turning.{part-long, desk-long, turn-asks, turn-entry, turn-nodes, turn-kept, turn-boards, turn-deep, turn-cut}
use Rattle.separating.proofs.+cut_parts_lay_slot_look.Goals as goal

-- ---- the slot's own tokens
pub cut_parts-put_top-rest-requires : goal.cut_parts-put_top-rest-requires
cut_parts-put_top-rest-requires t c =
    let a = c.requires.0 in
    let g = a.given in
    let f = lay-fits g _ (c.top_of-t.ensures c.args.bytes.now g.from a.choose a.held a.formula g.held_by g.stands) in
    let r = f.room in
    let d = g.desk-room in
    (omega arith, omega arith, f.small)

pub cut_parts-loop-x-init : goal.cut_parts-loop-x-init
cut_parts-loop-x-init t c = loop-first _ _ _ c.top_of-t.ensures c.put_top-rest.auto.desk c.put_top-rest.ensures

pub cut_parts-slice_bounds-look-count : goal.cut_parts-slice_bounds-look-count
cut_parts-slice_bounds-look-count t c =
    let n = loop-ask c.loop-x.invariant c.loop-x-test.true c.requires.0 refl c.from-p.result c.from-p.ensures in
    let i = next-inside n in omega arith

pub cut_parts-slice_bounds-look-start : goal.cut_parts-slice_bounds-look-start
cut_parts-slice_bounds-look-start t c =
    let n = loop-ask c.loop-x.invariant c.loop-x-test.true c.requires.0 refl c.from-p.result c.from-p.ensures in
    let i = next-inside n in omega arith

pub cut_parts-look-x-requires : goal.cut_parts-look-x-requires
cut_parts-look-x-requires t c =
    let n = loop-ask c.loop-x.invariant c.loop-x-test.true c.requires.0 refl c.from-p.result c.from-p.ensures in
    let g = c.requires.0.given in
    let f =
    falls-part c.args.u.now c.args.bytes.now c.args.part c.from-p.result t g.from (part-inside _ _ _ _ _ g.stands)
    (next-inside n) (next-later n) c.decreases in
    (f, (next-asks n, c.requires.1, c.requires.2))

pub cut_parts-loop-x-smaller : goal.cut_parts-loop-x-smaller
cut_parts-loop-x-smaller t c =
    let n = loop-ask c.loop-x.invariant c.loop-x-test.true c.requires.0 refl c.from-p.result c.from-p.ensures in
    let w = next-written n in
    let d = c.loop-x.invariant.desk-long in
    let e = c.look-x.ensures.written_is in
    omega arith

pub cut_parts-loop-x-preserved : goal.cut_parts-loop-x-preserved
cut_parts-loop-x-preserved t c =
    let h = c.look-x.auto in
    loop-turn c.loop-x.invariant c.loop-x-test.true _ c.from-p.ensures _ _ _ _ _ c.look-x.ensures
    h.desk h.bodies h.places h.stamps

pub cut_parts-returns : goal.cut_parts-returns
cut_parts-returns t c = loop-done c.loop-x.invariant (let l = c.loop-x-test.false in omega arith) refl

-- ---- a slot
pub lay_slot-returns-then-x-eq-SLOTS_ROOM : goal.lay_slot-returns-then-x-eq-SLOTS_ROOM
lay_slot-returns-then-x-eq-SLOTS_ROOM t c choose held f reg g =
    slot-over g _ _ _ _ _ ((c.cut_parts-x.ensures choose held f reg g).over c.if-x-eq-SLOTS_ROOM.true) refl

pub lay_slot-stamp_of-stamp-requires : goal.lay_slot-stamp_of-stamp-requires
lay_slot-stamp_of-stamp-requires t c =
    let a = c.requires.0 in
    let m = c.cut_parts-x.ensures a.choose a.held a.formula a.register a.given in
    let k = m.few in
    let n = c.if-x-eq-SLOTS_ROOM.false in
    let few : c.cut_parts-x.result.entries < slots_room = omega arith in
    slot-nodes a.given _ _ _ _ _ (m.laid few) few

pub lay_slot-slice_bounds-enter-end : goal.lay_slot-slice_bounds-enter-end
lay_slot-slice_bounds-enter-end t c =
    let a = c.requires.0 in
    let m = c.cut_parts-x.ensures a.choose a.held a.formula a.register a.given in
    let k = m.few in
    let n = c.if-x-eq-SLOTS_ROOM.false in
    (m.laid (omega arith)).few-tokens

pub lay_slot-slice_bounds-enter-end-2 : goal.lay_slot-slice_bounds-enter-end-2
lay_slot-slice_bounds-enter-end-2 t c =
    let a = c.requires.0 in
    let m = c.cut_parts-x.ensures a.choose a.held a.formula a.register a.given in
    let k = m.few in
    let n = c.if-x-eq-SLOTS_ROOM.false in
    sym (length-take-le _ _ (m.laid (omega arith)).few-tokens)

pub lay_slot-enter-requires : goal.lay_slot-enter-requires
lay_slot-enter-requires t c =
    let a = c.requires.0 in
    let m = c.cut_parts-x.ensures a.choose a.held a.formula a.register a.given in
    let k = m.few in
    let n = c.if-x-eq-SLOTS_ROOM.false in
    let few : c.cut_parts-x.result.entries < slots_room = omega arith in
    let h = c.cut_parts-x.auto in
    slot-asks a.given _ _ _ _ _ (m.laid few) few _ c.stamp_of-stamp.ensures h.bodies h.places h.stamps

pub lay_slot-returns : goal.lay_slot-returns
lay_slot-returns t c choose held f reg g =
    let m = c.cut_parts-x.ensures choose held f reg g in
    let k = m.few in
    let n = c.if-x-eq-SLOTS_ROOM.false in
    let few : c.cut_parts-x.result.entries < slots_room = omega arith in
    slot-lays g _ _ _ _ _ (m.laid few) few _ _ _ _ _ _ c.requires.1 c.stamp_of-stamp.ensures c.enter.ensures

-- ---- a part that is looked at
pub look-choice_of-choice-requires : goal.look-choice_of-choice-requires
look-choice_of-choice-requires t c = (look-room c.requires.0.given).marked

pub look-put_top-top-requires : goal.look-put_top-top-requires
look-put_top-top-requires t c =
    let a = c.requires.0 in
    let g = a.given.stage in
    let f = look-fits a.given _ (c.top_of-t.ensures c.args.bytes.now a.given.from a.choose a.held a.formula g.held_by g.stand.0) in
    let m = f.room in
    let r = look-room a.given in
    (omega arith, omega arith, f.small)

pub look-overflow_add-result-then-stays_on : goal.look-overflow_add-result-then-stays_on
look-overflow_add-result-then-stays_on t c =
    let n = turn-nodes c.args.room _ c.choice_of-choice.ensures (sym c.stays_on.ensures ∙ c.if-stays_on.true) _ c.top_of-t.ensures c.requires.0 in
    omega arith

pub look-returns-then-stays_on : goal.look-returns-then-stays_on
look-returns-then-stays_on t c =
    turn-kept _ _ c.choice_of-choice.ensures (sym c.stays_on.ensures ∙ c.if-stays_on.true) _ c.top_of-t.ensures _ _ c.put_top-top.auto.desk c.put_top-top.ensures

pub look-slice_bounds-lay_slot-count : goal.look-slice_bounds-lay_slot-count
look-slice_bounds-lay_slot-count t c = let r = look-room c.requires.0.given in omega arith

pub look-slice_bounds-lay_slot-start : goal.look-slice_bounds-lay_slot-start
look-slice_bounds-lay_slot-start t c = let r = look-room c.requires.0.given in omega arith

pub look-lay_slot-y-requires : goal.look-lay_slot-y-requires
look-lay_slot-y-requires t c =
    let a = c.requires.0 in
    let m = c.requires.1 in
    let r = c.requires.2 in
    let q = c.decreases in
    let k = look-room a.given in
    let z = outer-some a.formula in
    let x = c.args.x in
    let h = turn-boards c.args.room _ c.choice_of-choice.ensures (sym c.stays_on.ensures ∙ c.if-stays_on.false) a in
    (omega arith, (turn-asks a _ _ (part-long c.args.desk.now x.written (x.rest + 1) (omega arith) k.desk-inside) h.0, omega arith))

pub look-returns-then-y-eq-SLOTS_ROOM : goal.look-returns-then-y-eq-SLOTS_ROOM
look-returns-then-y-eq-SLOTS_ROOM t c =
    let k = look-room c.requires.0.given in
    let z = outer-some c.requires.0.formula in
    let x = c.args.x in
    turn-deep c.args.room _ c.choice_of-choice.ensures (sym c.stays_on.ensures ∙ c.if-stays_on.false) _ _ _ _ _
    (part-long c.args.desk.now x.written (x.rest + 1) (omega arith) k.desk-inside)
    c.lay_slot-y.ensures c.requires.1 c.if-y-eq-SLOTS_ROOM.true _

pub look-overflow_add-y : goal.look-overflow_add-y
look-overflow_add-y t c =
    let a = c.requires.0 in
    let k = look-room a.given in
    let z = outer-some a.formula in
    let x = c.args.x in
    let h = turn-boards c.args.room _ c.choice_of-choice.ensures (sym c.stays_on.ensures ∙ c.if-stays_on.false) a in
    let e = turn-entry a c.lay_slot-y.ensures (part-long c.args.desk.now x.written (x.rest + 1) (omega arith) k.desk-inside) h.0 c.if-y-eq-SLOTS_ROOM.false in
    let i = e.0 in
    omega arith

pub look-narrow-requires : goal.look-narrow-requires
look-narrow-requires t c =
    let a = c.requires.0 in
    let k = look-room a.given in
    let z = outer-some a.formula in
    let x = c.args.x in
    let h = turn-boards c.args.room _ c.choice_of-choice.ensures (sym c.stays_on.ensures ∙ c.if-stays_on.false) a in
    let e = turn-entry a c.lay_slot-y.ensures (part-long c.args.desk.now x.written (x.rest + 1) (omega arith) k.desk-inside) h.0 c.if-y-eq-SLOTS_ROOM.false in
    let i = e.0 in
    omega arith

pub look-bounds-desk-w : goal.look-bounds-desk-w
look-bounds-desk-w t c =
    let k = look-room c.requires.0.given in
    let z = outer-some c.requires.0.formula in
    let x = c.args.x in
    let l : x.written < x.rest + 1 = omega arith in
    let n = part-long c.args.desk.now x.written (x.rest + 1) l k.desk-inside in
    let w = desk-long c.args.desk.now c.lay_slot-y.new.desk x.written (x.rest + 1) l k.desk-inside (c.lay_slot-y.auto.desk ∙ n) in
    let i = k.desk-inside in
    omega arith

pub look-returns : goal.look-returns
look-returns t c =
    let k = look-room c.requires.0.given in
    let z = outer-some c.requires.0.formula in
    let x = c.args.x in
    let l : x.written < x.rest + 1 = omega arith in
    let n = part-long c.args.desk.now x.written (x.rest + 1) l k.desk-inside in
    let h = c.lay_slot-y.auto in
    turn-cut c.args.room _ c.choice_of-choice.ensures (sym c.stays_on.ensures ∙ c.if-stays_on.false) _ _ _ _ _ n c.lay_slot-y.ensures c.if-y-eq-SLOTS_ROOM.false
    c.lay_slot-y.new.desk _ c.narrow.ensures (h.desk ∙ n) h.bodies h.places h.stamps
