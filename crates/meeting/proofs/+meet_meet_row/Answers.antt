use mathlib.Core.Path.{◌≡◌, sym, ◌∙◌}
use mathlib.Core.Bool.{true, false}
use Prim.Native.Nat.{◌+◌, ◌-◌, ◌<◌}
use native.Mathlib.Omega.{arith}
use lib.ListN.{length, get_or, set}
use Rattle.lists.specs.Tests.{bit}
use Rattle.meeting.proofs.Entering.{lent-tokens, meets-seen, EntryMet, entered, entry-room, entry-ask, meets-new}
use Rattle.meeting.proofs.Walking.{holds, walk_start, walk-past, entry-big, entry-less, walk-ask, walk-met, walk-as, walk-done}
use Rattle.meeting.proofs.+meet_meet_row.Goals as goal
use Rattle.meeting.proofs.+meet_meet_row.Goals.{meet_row-then-is_holder, meet_row-else-is_holder}

-- ---- one entry
pub meet-returns-then-has_bit : goal.meet-returns-then-has_bit
meet-returns-then-has_bit t c = meets-seen c.requires (sym c.has_bit.ensures ∙ c.if-has_bit.true)

pub meet-bounds-row-count : goal.meet-bounds-row-count
meet-bounds-row-count t c = entry-room c.requires (sym c.has_bit.ensures ∙ c.if-has_bit.false)

pub meet-overflow_add-more : goal.meet-overflow_add-more
meet-overflow_add-more t c = let h = entry-room c.requires (sym c.has_bit.ensures ∙ c.if-has_bit.false) in let g = c.well_formed in omega arith

-- it stands behind those met
pub meet-meet_row-requires : goal.meet-meet_row-requires
meet-meet_row-requires t c =
    let a = c.args in
    let unmet : bit a.m.seen a.k ≡ false = sym c.has_bit.ensures ∙ c.if-has_bit.false in
    let grown : EntryMet a.k a.row.now (set a.row.now a.m.count a.k) a.m (record { count = a.m.count + 1; seen = c.with_bit.result }) = entered c.requires unmet _ c.with_bit.ensures in
    let z = c.decreases in
    (omega arith, entry-ask _ c.requires grown (lent-tokens a.bodies.now a.places.now a.k))

pub meet-returns : goal.meet-returns
meet-returns t c =
    let a = c.args in
    let unmet : bit a.m.seen a.k ≡ false = sym c.has_bit.ensures ∙ c.if-has_bit.false in
    let grown : EntryMet a.k a.row.now (set a.row.now a.m.count a.k) a.m (record { count = a.m.count + 1; seen = c.with_bit.result }) = entered c.requires unmet _ c.with_bit.ensures in
    meets-new c.requires unmet grown (lent-tokens a.bodies.now a.places.now a.k) c.meet_row.ensures

-- ---- a row
pub meet_row-loop-t-init : goal.meet_row-loop-t-init
meet_row-loop-t-init t c = walk_start c.requires

pub meet_row-overflow_sub-k : goal.meet_row-overflow_sub-k
meet_row-overflow_sub-k t c = entry-big c.loop-t.invariant c.requires (omega arith) (sym c.is_holder.ensures ∙ c.if-is_holder.true)

-- its entry's number is below the holder's
pub meet_row-with_bit-held-requires : goal.meet_row-with_bit-held-requires
meet_row-with_bit-held-requires t c =
    let h = entry-less c.loop-t.invariant c.requires (omega arith) (sym c.is_holder.ensures ∙ c.if-is_holder.true) in
    let f = c.requires.linked.few in
    omega arith

pub meet_row-meet-so_far-requires : goal.meet_row-meet-so_far-requires
meet_row-meet-so_far-requires t c =
    let held : holds (get_or c.args.tokens.now c.loop-t.t-index 0) ≡ true = sym c.is_holder.ensures ∙ c.if-is_holder.true in
    let h : get_or c.args.tokens.now c.loop-t.t-index 0 - 128 < c.args.own = entry-less c.loop-t.invariant c.requires (omega arith) held in
    let e = c.decreases in
    (omega arith, walk-ask c.loop-t.invariant c.requires (omega arith) held)

pub meet_row-loop-t-preserved : goal.meet_row-loop-t-preserved
meet_row-loop-t-preserved t c =
    let k = c.loop-t.invariant in
    let l : c.loop-t.t-index < length c.args.tokens.now = omega arith in
    let e = c.is_holder.ensures in
    elim c.if-is_holder.branch [
      | meet_row-then-is_holder w ↦
          walk-as
          (walk-met k c.requires l (sym e ∙ w.if-is_holder.true) w.with_bit-held.result w.with_bit-held.ensures w.meet-so_far.ensures w.meet-so_far.auto.row w.meet-so_far.auto.sets)
          w.row-is w.sets-is w.so_far-is w.held-is
      | meet_row-else-is_holder w ↦ walk-as (walk-past k l (sym e ∙ w.if-is_holder.false)) w.row-is w.sets-is w.so_far-is w.held-is
    ]

pub meet_row-returns : goal.meet_row-returns
meet_row-returns t c = walk-done c.loop-t.invariant c.requires (omega arith)
