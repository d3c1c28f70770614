use mathlib.Core.Path.{◌≡◌, sym, ap, ◌∙◌}
use Prim.Native.Nat.{◌<◌, ◌≤◌}
use native.Mathlib.Omega.{arith}
use lib.ListN.{length, get_or}
use Rattle.limits.specs.Limits.{nodes_room}
use Rattle.kinds.specs.Kinds.{kind_of}
use Rattle.sizing.specs.Sums.{ever_kind}
use Rattle.sizing.proofs.Counts.{part_room, ever_more, ever-done}
use Rattle.sizing.proofs.count_ever.Goals as goal

pub loop-count-init : goal.loop-count-init
loop-count-init c = let a = c.requires in let l = a.small in (a.part, omega arith, omega arith)

pub bounds-s-i : goal.bounds-s-i
bounds-s-i c = c.loop-count.invariant.0.below

pub overflow_add-count : goal.overflow_add-count
overflow_add-count c =
    let room : let i = c.loop-count.i in (i < c.args.end) × (c.args.end ≤ length c.args.s.now) × (length c.args.s.now ≤ nodes_room) = part_room c.loop-count.invariant.0 in
    let r = room in let l = c.loop-count.invariant.2 in omega arith

pub overflow_sub-count : goal.overflow_sub-count
overflow_sub-count c =
    let room : let i = c.loop-count.i in (i < c.args.end) × (c.args.end ≤ length c.args.s.now) × (length c.args.s.now ≤ nodes_room) = part_room c.loop-count.invariant.0 in
    let r = room in omega arith

pub overflow_add-count-in-loop-count : goal.overflow_add-count-in-loop-count
overflow_add-count-in-loop-count c =
    let room : let i = c.loop-count.i in (i < c.args.end) × (c.args.end ≤ length c.args.s.now) × (length c.args.s.now ≤ nodes_room) = part_room c.loop-count.invariant.0 in
    let r = room in let l = c.loop-count.invariant.2 in omega arith

pub overflow_add-i : goal.overflow_add-i
overflow_add-i c =
    let room : let i = c.loop-count.i in (i < c.args.end) × (c.args.end ≤ length c.args.s.now) × (length c.args.s.now ≤ nodes_room) = part_room c.loop-count.invariant.0 in
    let r = room in omega arith

pub loop-count-smaller : goal.loop-count-smaller
loop-count-smaller c =
    let room : let i = c.loop-count.i in (i < c.args.end) × (c.args.end ≤ length c.args.s.now) × (length c.args.s.now ≤ nodes_room) = part_room c.loop-count.invariant.0 in
    let r = room in omega arith

pub loop-count-preserved : goal.loop-count-preserved
loop-count-preserved c =
    let room : let i = c.loop-count.i in (i < c.args.end) × (c.args.end ≤ length c.args.s.now) × (length c.args.s.now ≤ nodes_room) = part_room c.loop-count.invariant.0 in
    let kind : c.is_ever.result ≡ ever_kind (kind_of (get_or c.args.s.now c.loop-count.i 0)) = c.is_ever.ensures ∙ ap ever_kind c.from.ensures in
    let l = c.loop-count.invariant in
    let r = room in
    let f = l.1 in
    let m = l.2 in
    (ever_more l.0 (sym (kind) ∙ c.loop-count-test.true), omega arith, omega arith)

pub returns : goal.returns
returns c =
    let kind : c.is_ever.result ≡ ever_kind (kind_of (get_or c.args.s.now c.loop-count.i 0)) = c.is_ever.ensures ∙ ap ever_kind c.from.ensures in
    let l = c.loop-count.invariant in ever-done c.requires l.0 l.1 l.2 (sym (kind) ∙ c.loop-count-test.false)
