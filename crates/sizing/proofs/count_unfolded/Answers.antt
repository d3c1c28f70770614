use mathlib.Core.Path.{◌≡◌, sym, ap, ◌∙◌}
use native.Mathlib.Omega.{arith}
use lib.ListN.{get_or}
use Rattle.kinds.specs.Kinds.{kind_of}
use Rattle.outlining.specs.Outlined.{whole_kind}
use Rattle.sizing.proofs.Counts.{sums-start, sums-plain, counted, counted-over}
use Rattle.sizing.proofs.count_unfolded.Goals as goal

pub loop-i-init : goal.loop-i-init
loop-i-init c = let f = c.requires.few in (sums-start c.requires, omega arith)

pub count_whole-t-requires : goal.count_whole-t-requires
count_whole-t-requires c =
    let kind : c.stays_whole.result ≡ whole_kind (kind_of (get_or c.args.s.now c.loop-i.i 0)) = c.stays_whole.ensures ∙ ap whole_kind c.from.ensures in
    let l = c.loop-i.invariant in record { sums = l.0; below = c.loop-i-test.true; stays = sym (kind) ∙ c.if-stays_whole.true; small = l.1 }

pub returns-then-count-gt-NODES_ROOM : goal.returns-then-count-gt-NODES_ROOM
returns-then-count-gt-NODES_ROOM c = counted-over c.count_whole-t.ensures.sums c.if-count-gt-NODES_ROOM.true

pub loop-i-smaller-else-count-gt-NODES_ROOM : goal.loop-i-smaller-else-count-gt-NODES_ROOM
loop-i-smaller-else-count-gt-NODES_ROOM c = let o = c.count_whole-t.ensures in let m = o.more in let w = o.sums.within in omega arith

pub loop-i-preserved-else-count-gt-NODES_ROOM : goal.loop-i-preserved-else-count-gt-NODES_ROOM
loop-i-preserved-else-count-gt-NODES_ROOM c = (c.count_whole-t.ensures.sums, c.if-count-gt-NODES_ROOM.false)

pub loop-i-smaller : goal.loop-i-smaller
loop-i-smaller c = let h = c.loop-i-test.true in omega arith

pub loop-i-preserved : goal.loop-i-preserved
loop-i-preserved c =
    let kind : c.stays_whole.result ≡ whole_kind (kind_of (get_or c.args.s.now c.loop-i.i 0)) = c.stays_whole.ensures ∙ ap whole_kind c.from.ensures in
    let l = c.loop-i.invariant in (sums-plain l.0 c.loop-i-test.true (sym (kind) ∙ c.if-stays_whole.false), l.1)

pub returns : goal.returns
returns c = counted c.loop-i.invariant.0 c.loop-i-test.false c.loop-i.invariant.1
