use mathlib.Core.Path.{refl, sym, ap, ◌∙◌}
use native.Mathlib.Omega.{arith}
use Rattle.kinds.specs.declared.Kind.TheVariants.{Zero, One, Two}
use Rattle.nodes.proofs.Fronts.{parts-as, no_code}
use Rattle.laying.proofs.Slots.{stay-asks, cut-asks, hold-asks}
use Rattle.laying.proofs.Room.{entry, cut-done, not_begun, pair_begun, not_first, pair_first, pair_right, both-done, hold-entry, slot-begun, slot_has, stays_told}
use Rattle.laying.proofs.Cutting.{constant, proposition, next, ever, until, whole-asks, whole-cuts, leaf-cuts, not-cuts, pair-cuts, stay-looks, cut-looks, slot-lays, hold-cuts}
use Rattle.laying.proofs.+cut_not_cut_pair_cut_parts_lay_slot_look.Goals as goal

-- ---- not: its operand is looked at behind the byte
pub cut_not-bounds-p-0 : goal.cut_not-bounds-p-0
cut_not-bounds-p-0 t c = let n = not_begun c.requires in omega arith

pub cut_not-overflow_sub-inner : goal.cut_not-overflow_sub-inner
cut_not-overflow_sub-inner t c = let n = not_begun c.requires in omega arith

pub cut_not-slice_bounds-look-count : goal.cut_not-slice_bounds-look-count
cut_not-slice_bounds-look-count t c = let n = not_begun c.requires in omega arith

pub cut_not-slice_bounds-look-start : goal.cut_not-slice_bounds-look-start
cut_not-slice_bounds-look-start t c = let n = not_begun c.requires in omega arith

pub cut_not-slice_bounds-look-count-2 : goal.cut_not-slice_bounds-look-count-2
cut_not-slice_bounds-look-count-2 t c = let n = not_begun c.requires in omega arith

pub cut_not-slice_bounds-look-start-2 : goal.cut_not-slice_bounds-look-start-2
cut_not-slice_bounds-look-start-2 t c = let n = not_begun c.requires in omega arith

pub cut_not-slice_bounds-look-count-3 : goal.cut_not-slice_bounds-look-count-3
cut_not-slice_bounds-look-count-3 t c = let n = not_begun c.requires in omega arith

pub cut_not-slice_bounds-look-start-3 : goal.cut_not-slice_bounds-look-start-3
cut_not-slice_bounds-look-start-3 t c = let n = not_begun c.requires in omega arith

pub cut_not-look-x-requires : goal.cut_not-look-x-requires
cut_not-look-x-requires t c =
    let n = not_begun c.requires in
    let q = c.decreases in
    (omega arith, n.asks)

pub cut_not-overflow_add-result : goal.cut_not-overflow_add-result
cut_not-overflow_add-result t c = let d = not_first c.requires c.look-x.ensures c.look-x.auto.p in let g = c.well_formed in omega arith

pub cut_not-overflow_add-result-2 : goal.cut_not-overflow_add-result-2
cut_not-overflow_add-result-2 t c = let d = not_first c.requires c.look-x.ensures c.look-x.auto.p in let g = c.well_formed in omega arith

pub cut_not-returns : goal.cut_not-returns
cut_not-returns t c = not-cuts _ c.requires.1 c.look-x.ensures (refl, (refl, refl, refl))

-- ---- two operands: the left one is looked at behind the byte, the right one behind what the left one has taken
pub cut_pair-bounds-u-0 : goal.cut_pair-bounds-u-0
cut_pair-bounds-u-0 t c = let n = pair_begun c.requires in omega arith

pub cut_pair-bounds-p-0 : goal.cut_pair-bounds-p-0
cut_pair-bounds-p-0 t c = let n = pair_begun c.requires in omega arith

pub cut_pair-overflow_sub-left : goal.cut_pair-overflow_sub-left
cut_pair-overflow_sub-left t c = let n = pair_begun c.requires in omega arith

pub cut_pair-slice_bounds-look-count : goal.cut_pair-slice_bounds-look-count
cut_pair-slice_bounds-look-count t c = let n = pair_begun c.requires in omega arith

pub cut_pair-slice_bounds-look-start : goal.cut_pair-slice_bounds-look-start
cut_pair-slice_bounds-look-start t c = let n = pair_begun c.requires in omega arith

pub cut_pair-slice_bounds-look-count-2 : goal.cut_pair-slice_bounds-look-count-2
cut_pair-slice_bounds-look-count-2 t c = let n = pair_begun c.requires in omega arith

pub cut_pair-slice_bounds-look-start-2 : goal.cut_pair-slice_bounds-look-start-2
cut_pair-slice_bounds-look-start-2 t c = let n = pair_begun c.requires in omega arith

pub cut_pair-slice_bounds-look-count-3 : goal.cut_pair-slice_bounds-look-count-3
cut_pair-slice_bounds-look-count-3 t c = let n = pair_begun c.requires in omega arith

pub cut_pair-slice_bounds-look-start-3 : goal.cut_pair-slice_bounds-look-start-3
cut_pair-slice_bounds-look-start-3 t c = let n = pair_begun c.requires in omega arith

pub cut_pair-look-x-requires : goal.cut_pair-look-x-requires
cut_pair-look-x-requires t c =
    let n = pair_begun c.requires in
    let q = c.decreases in
    (omega arith, n.asks)

pub cut_pair-overflow_add-m : goal.cut_pair-overflow_add-m
cut_pair-overflow_add-m t c = let d = pair_first c.requires c.look-x.ensures c.look-x.auto.p in let g = c.well_formed in omega arith

pub cut_pair-overflow_add-here : goal.cut_pair-overflow_add-here
cut_pair-overflow_add-here t c = let d = pair_first c.requires c.look-x.ensures c.look-x.auto.p in let g = c.well_formed in omega arith

pub cut_pair-rows-records-requires : goal.cut_pair-rows-records-requires
cut_pair-rows-records-requires t c = let d = pair_first c.requires c.look-x.ensures c.look-x.auto.p in let g = c.well_formed in omega arith

pub cut_pair-overflow_add-right-2 : goal.cut_pair-overflow_add-right-2
cut_pair-overflow_add-right-2 t c = let d = pair_first c.requires c.look-x.ensures c.look-x.auto.p in let g = c.well_formed in omega arith

pub cut_pair-overflow_sub-right : goal.cut_pair-overflow_sub-right
cut_pair-overflow_sub-right t c = let d = pair_first c.requires c.look-x.ensures c.look-x.auto.p in let g = c.well_formed in omega arith

pub cut_pair-overflow_add-right-3 : goal.cut_pair-overflow_add-right-3
cut_pair-overflow_add-right-3 t c = let d = pair_first c.requires c.look-x.ensures c.look-x.auto.p in let g = c.well_formed in omega arith

pub cut_pair-slice_bounds-look-count-4 : goal.cut_pair-slice_bounds-look-count-4
cut_pair-slice_bounds-look-count-4 t c = let d = pair_first c.requires c.look-x.ensures c.look-x.auto.p in let g = c.well_formed in omega arith

pub cut_pair-slice_bounds-look-start-4 : goal.cut_pair-slice_bounds-look-start-4
cut_pair-slice_bounds-look-start-4 t c = let d = pair_first c.requires c.look-x.ensures c.look-x.auto.p in let g = c.well_formed in omega arith

pub cut_pair-offset_bounds-tags-m : goal.cut_pair-offset_bounds-tags-m
cut_pair-offset_bounds-tags-m t c = let d = pair_first c.requires c.look-x.ensures c.look-x.auto.p in let g = c.well_formed in omega arith

pub cut_pair-slice_bounds-look-count-5 : goal.cut_pair-slice_bounds-look-count-5
cut_pair-slice_bounds-look-count-5 t c = let d = pair_first c.requires c.look-x.ensures c.look-x.auto.p in let g = c.well_formed in omega arith

pub cut_pair-slice_bounds-look-start-5 : goal.cut_pair-slice_bounds-look-start-5
cut_pair-slice_bounds-look-start-5 t c = let d = pair_first c.requires c.look-x.ensures c.look-x.auto.p in let g = c.well_formed in omega arith

pub cut_pair-slice_bounds-look-count-6 : goal.cut_pair-slice_bounds-look-count-6
cut_pair-slice_bounds-look-count-6 t c = let d = pair_first c.requires c.look-x.ensures c.look-x.auto.p in let g = c.well_formed in omega arith

pub cut_pair-slice_bounds-look-start-6 : goal.cut_pair-slice_bounds-look-start-6
cut_pair-slice_bounds-look-start-6 t c = let d = pair_first c.requires c.look-x.ensures c.look-x.auto.p in let g = c.well_formed in omega arith

pub cut_pair-slice_bounds-look-count-7 : goal.cut_pair-slice_bounds-look-count-7
cut_pair-slice_bounds-look-count-7 t c = let r = pair_right c.requires c.look-x.ensures c.look-x.auto.p c.look-x.auto.r c.rows-records.ensures in let g = c.well_formed in omega arith

pub cut_pair-slice_bounds-look-start-7 : goal.cut_pair-slice_bounds-look-start-7
cut_pair-slice_bounds-look-start-7 t c = let r = pair_right c.requires c.look-x.ensures c.look-x.auto.p c.look-x.auto.r c.rows-records.ensures in let g = c.well_formed in omega arith

pub cut_pair-look-y-requires : goal.cut_pair-look-y-requires
cut_pair-look-y-requires t c =
    let r = pair_right c.requires c.look-x.ensures c.look-x.auto.p c.look-x.auto.r c.rows-records.ensures in
    let q = c.decreases in
    let f = r.2.fewer in
    (omega arith, r.2.asks)

pub cut_pair-overflow_add-result : goal.cut_pair-overflow_add-result
cut_pair-overflow_add-result t c =
    let r = pair_right c.requires c.look-x.ensures c.look-x.auto.p c.look-x.auto.r c.rows-records.ensures in
    let b = both-done r.1 c.look-x.auto.r r.2 c.look-y.ensures c.look-y.auto.p c.look-y.auto.r in let g = c.well_formed in omega arith

pub cut_pair-overflow_add-result-2 : goal.cut_pair-overflow_add-result-2
cut_pair-overflow_add-result-2 t c =
    let r = pair_right c.requires c.look-x.ensures c.look-x.auto.p c.look-x.auto.r c.rows-records.ensures in
    let b = both-done r.1 c.look-x.auto.r r.2 c.look-y.ensures c.look-y.auto.p c.look-y.auto.r in let g = c.well_formed in omega arith

pub cut_pair-overflow_add-result-3 : goal.cut_pair-overflow_add-result-3
cut_pair-overflow_add-result-3 t c =
    let r = pair_right c.requires c.look-x.ensures c.look-x.auto.p c.look-x.auto.r c.rows-records.ensures in
    let b = both-done r.1 c.look-x.auto.r r.2 c.look-y.ensures c.look-y.auto.p c.look-y.auto.r in let g = c.well_formed in omega arith

pub cut_pair-overflow_add-result-4 : goal.cut_pair-overflow_add-result-4
cut_pair-overflow_add-result-4 t c =
    let r = pair_right c.requires c.look-x.ensures c.look-x.auto.p c.look-x.auto.r c.rows-records.ensures in
    let b = both-done r.1 c.look-x.auto.r r.2 c.look-y.ensures c.look-y.auto.p c.look-y.auto.r in let g = c.well_formed in omega arith

pub cut_pair-returns : goal.cut_pair-returns
cut_pair-returns t c = pair-cuts _ c.requires.1 c.rows-records.ensures c.look-x.ensures c.look-y.ensures (refl, (refl, refl, refl))

-- ---- a formula in the slot that is being laid
pub cut_parts-bounds-u-0 : goal.cut_parts-bounds-u-0
cut_parts-bounds-u-0 t c = let n = entry c.requires.source c.requires.front c.requires.fits in omega arith

pub cut_parts-put_leaf-requires : goal.cut_parts-put_leaf-requires
cut_parts-put_leaf-requires t c = let n = entry c.requires.source c.requires.front c.requires.fits in omega arith

pub cut_parts-put_leaf-requires-in-Prop : goal.cut_parts-put_leaf-requires-in-Prop
cut_parts-put_leaf-requires-in-Prop t c = let n = entry c.requires.source c.requires.front c.requires.fits in omega arith

pub cut_parts-bounds-tags-0 : goal.cut_parts-bounds-tags-0
cut_parts-bounds-tags-0 t c = let n = entry c.requires.source c.requires.front c.requires.fits in omega arith

pub cut_parts-slice_bounds-lay_slot-count : goal.cut_parts-slice_bounds-lay_slot-count
cut_parts-slice_bounds-lay_slot-count t c = let n = hold-entry c.requires (sym c.from-k.ensures ∙ c.in-Zero.is ∙ ap Zero c.in-Hold.is) c.ahead_of-ahead.ensures in let g = c.well_formed in omega arith

pub cut_parts-slice_bounds-lay_slot-start : goal.cut_parts-slice_bounds-lay_slot-start
cut_parts-slice_bounds-lay_slot-start t c = let n = hold-entry c.requires (sym c.from-k.ensures ∙ c.in-Zero.is ∙ ap Zero c.in-Hold.is) c.ahead_of-ahead.ensures in let g = c.well_formed in omega arith

pub cut_parts-offset_bounds-tags-ahead : goal.cut_parts-offset_bounds-tags-ahead
cut_parts-offset_bounds-tags-ahead t c = let n = hold-entry c.requires (sym c.from-k.ensures ∙ c.in-Zero.is ∙ ap Zero c.in-Hold.is) c.ahead_of-ahead.ensures in let g = c.well_formed in omega arith

pub cut_parts-slice_bounds-lay_slot-count-in-Hold : goal.cut_parts-slice_bounds-lay_slot-count-in-Hold
cut_parts-slice_bounds-lay_slot-count-in-Hold t c = let n = hold-entry c.requires (sym c.from-k.ensures ∙ c.in-Zero.is ∙ ap Zero c.in-Hold.is) c.ahead_of-ahead.ensures in let g = c.well_formed in omega arith

pub cut_parts-slice_bounds-lay_slot-start-in-Hold : goal.cut_parts-slice_bounds-lay_slot-start-in-Hold
cut_parts-slice_bounds-lay_slot-start-in-Hold t c = let n = hold-entry c.requires (sym c.from-k.ensures ∙ c.in-Zero.is ∙ ap Zero c.in-Hold.is) c.ahead_of-ahead.ensures in let g = c.well_formed in omega arith

pub cut_parts-lay_slot-x-requires : goal.cut_parts-lay_slot-x-requires
cut_parts-lay_slot-x-requires t c =
    let n = hold-entry c.requires (sym c.from-k.ensures ∙ c.in-Zero.is ∙ ap Zero c.in-Hold.is) c.ahead_of-ahead.ensures in
    let q = c.decreases in
    (omega arith, hold-asks c.requires (sym c.from-k.ensures ∙ c.in-Zero.is ∙ ap Zero c.in-Hold.is) c.ahead_of-ahead.ensures)

pub cut_parts-cut_not-requires : goal.cut_parts-cut_not-requires
cut_parts-cut_not-requires t c = let q = c.decreases in (omega arith, (c.requires, (sym c.from-k.ensures ∙ c.in-One.is ∙ ap One c.in-Not.is)))

pub cut_parts-put_whole-requires : goal.cut_parts-put_whole-requires
cut_parts-put_whole-requires t c = whole-asks c.requires next (sym c.from-k.ensures ∙ c.in-One.is ∙ ap One c.in-Next.is)

pub cut_parts-put_whole-requires-in-Ever : goal.cut_parts-put_whole-requires-in-Ever
cut_parts-put_whole-requires-in-Ever t c = whole-asks c.requires ever (sym c.from-k.ensures ∙ c.in-One.is ∙ ap One c.in-Ever.is)

pub cut_parts-cut_pair-requires : goal.cut_parts-cut_pair-requires
cut_parts-cut_pair-requires t c = let q = c.decreases in (omega arith, (c.requires, record { by = _; kind = (sym c.from-k.ensures ∙ c.in-Two.is ∙ ap Two c.in-Joined.is) }))

pub cut_parts-put_whole-requires-in-Until : goal.cut_parts-put_whole-requires-in-Until
cut_parts-put_whole-requires-in-Until t c = whole-asks c.requires until (sym c.from-k.ensures ∙ c.in-Two.is ∙ ap Two c.in-Until.is)

pub cut_parts-put_leaf-requires-in-NoCode : goal.cut_parts-put_leaf-requires-in-NoCode
cut_parts-put_leaf-requires-in-NoCode t c = let n = entry c.requires.source c.requires.front c.requires.fits in omega arith

pub cut_parts-returns-in-Const : goal.cut_parts-returns-in-Const
cut_parts-returns-in-Const t c = leaf-cuts constant (sym c.from-k.ensures ∙ c.in-Zero.is ∙ ap Zero c.in-Const.is) c.put_leaf.ensures

pub cut_parts-returns-in-Prop : goal.cut_parts-returns-in-Prop
cut_parts-returns-in-Prop t c = leaf-cuts proposition (sym c.from-k.ensures ∙ c.in-Zero.is ∙ ap Zero c.in-Prop.is) c.put_leaf-in-Prop.ensures

pub cut_parts-returns-in-Hold : goal.cut_parts-returns-in-Hold
cut_parts-returns-in-Hold t c = hold-cuts _ (sym c.from-k.ensures ∙ c.in-Zero.is ∙ ap Zero c.in-Hold.is) c.ahead_of-ahead.ensures c.lay_slot-x.ensures (refl, (refl, refl, refl))

pub cut_parts-returns-in-Next : goal.cut_parts-returns-in-Next
cut_parts-returns-in-Next t c = whole-cuts next (sym c.from-k.ensures ∙ c.in-One.is ∙ ap One c.in-Next.is) c.put_whole.ensures

pub cut_parts-returns-in-Ever : goal.cut_parts-returns-in-Ever
cut_parts-returns-in-Ever t c = whole-cuts ever (sym c.from-k.ensures ∙ c.in-One.is ∙ ap One c.in-Ever.is) c.put_whole-in-Ever.ensures

pub cut_parts-returns-in-Until : goal.cut_parts-returns-in-Until
cut_parts-returns-in-Until t c = whole-cuts until (sym c.from-k.ensures ∙ c.in-Two.is ∙ ap Two c.in-Until.is) c.put_whole-in-Until.ensures

pub cut_parts-returns-in-NoCode : goal.cut_parts-returns-in-NoCode
cut_parts-returns-in-NoCode t c = λ choose hold f rest s front m. absurd (no_code (parts-as _ f rest front c.from-k.ensures c.in-NoCode.is))

-- ---- a slot of its own
pub lay_slot-bounds-tags-0 : goal.lay_slot-bounds-tags-0
lay_slot-bounds-tags-0 t c = let n = entry c.requires.source c.requires.stands.front c.requires.fits in omega arith

pub lay_slot-overflow_cast-n : goal.lay_slot-overflow_cast-n
lay_slot-overflow_cast-n t c = let s = slot-begun c.requires (slot_has c.length_of-n.ensures c.board_of-board.ensures) in omega arith

pub lay_slot-overflow_add-own-2 : goal.lay_slot-overflow_add-own-2
lay_slot-overflow_add-own-2 t c = let s = slot-begun c.requires (slot_has c.length_of-n.ensures c.board_of-board.ensures) in omega arith

pub lay_slot-cut_parts-x-requires : goal.lay_slot-cut_parts-x-requires
lay_slot-cut_parts-x-requires t c =
    let s = slot-begun c.requires (slot_has c.length_of-n.ensures c.board_of-board.ensures) in
    let q = c.decreases in
    (omega arith, s.asks c.put_record.new.r c.put_record.auto.r)

pub lay_slot-overflow_add-result : goal.lay_slot-overflow_add-result
lay_slot-overflow_add-result t c =
    let s = slot-begun c.requires (slot_has c.length_of-n.ensures c.board_of-board.ensures) in
    let d = cut-done (s.asks c.put_record.new.r c.put_record.auto.r) c.cut_parts-x.ensures in omega arith

pub lay_slot-overflow_add-result-2 : goal.lay_slot-overflow_add-result-2
lay_slot-overflow_add-result-2 t c =
    let s = slot-begun c.requires (slot_has c.length_of-n.ensures c.board_of-board.ensures) in
    let d = cut-done (s.asks c.put_record.new.r c.put_record.auto.r) c.cut_parts-x.ensures in omega arith

pub lay_slot-returns : goal.lay_slot-returns
lay_slot-returns t c =
    slot-lays _ (slot_has c.length_of-n.ensures c.board_of-board.ensures) c.put_record.ensures c.cut_parts-x.ensures (refl, (refl, refl, refl))

-- ---- an operand
pub look-bounds-tags-0 : goal.look-bounds-tags-0
look-bounds-tags-0 t c = let n = entry c.requires.source c.requires.front c.requires.fits in omega arith

pub look-cut_parts-requires : goal.look-cut_parts-requires
look-cut_parts-requires t c =
    let q = c.decreases in
    (omega arith, stay-asks c.requires (stays_told _ _ c.board_of-choice.ensures c.stays_on.ensures ∙ c.if-stays_on.true))

pub look-returns-then-stays_on : goal.look-returns-then-stays_on
look-returns-then-stays_on t c =
    stay-looks (stays_told _ _ c.board_of-choice.ensures c.stays_on.ensures ∙ c.if-stays_on.true) c.cut_parts.ensures

pub look-lay_slot-requires : goal.look-lay_slot-requires
look-lay_slot-requires t c =
    let q = c.decreases in
    (omega arith, cut-asks c.requires (stays_told _ _ c.board_of-choice.ensures c.stays_on.ensures ∙ c.if-stays_on.false))

pub look-returns : goal.look-returns
look-returns t c =
    cut-looks (stays_told _ _ c.board_of-choice.ensures c.stays_on.ensures ∙ c.if-stays_on.false) c.lay_slot.ensures
