-- The mark is set, the slot's bytes are lent on and rewritten, and the length is put. Assumes nothing.
use mathlib.Core.Path.{refl}
use Prim.Native.Nat.{◌+◌, ◌≤◌}
use lib.ListN.{length}
use Rattle.limits.specs.Limits.{nodes_room}
use Rattle.state.specs.Form.{slot_row}
use Rattle.state.specs.Counted.{record_of}
use Rattle.state.proofs.Places.{record-within}
use Rattle.records.proofs.Opened.{opened-sized, opened-slot}
use Rattle.settling.proofs.Rewriting.{lent-rewritable, count-few, put-done}
use native.Mathlib.Omega.{arith}
use Rattle.settling.proofs.putting.put_stepped.Goals as goal

pub span_of-from-requires : goal.span_of-from-requires
span_of-from-requires c = let q = c.before.requires in let p = opened-slot q.0 _ q.1 in (p.sized, p.number, p.stretch)

pub put_mark-requires : goal.put_mark-requires
put_mark-requires c =
    let record-lies : let a = c.args in record_of a.c a.k + slot_row ≤ length a.s.now = record-within _ _ (opened-sized c.requires.0) _ c.requires.1 in
    record-lies

pub slice_bounds-rewrite-count : goal.slice_bounds-rewrite-count
slice_bounds-rewrite-count c = let x = c.span_of-from.ensures in omega arith

pub slice_bounds-rewrite-start : goal.slice_bounds-rewrite-start
slice_bounds-rewrite-start c = let x = c.span_of-from.ensures in omega arith

pub slice_bounds-rewrite-end : goal.slice_bounds-rewrite-end
slice_bounds-rewrite-end c = let x = c.span_of-from.ensures in let k = c.put_mark.auto.s in omega arith

pub rewrite-n-requires : goal.rewrite-n-requires
rewrite-n-requires c = let p = c.requires in lent-rewritable p.0 p.1 c.span_of-from.ensures c.put_mark.ensures

pub overflow_cast-n : goal.overflow_cast-n
overflow_cast-n c =
    let few : c.rewrite-n.result ≤ nodes_room = let p = c.requires in count-few p.0 p.1 c.span_of-from.ensures c.put_mark.ensures c.rewrite-n.ensures in
    let f = few in omega arith

pub put_length-requires : goal.put_length-requires
put_length-requires c =
    let record-lies : let a = c.args in record_of a.c a.k + slot_row ≤ length a.s.now = record-within _ _ (opened-sized c.requires.0) _ c.requires.1 in
    let r = record-lies in let k = c.put_mark.auto.s in let e = c.s-2-1.given.1 in omega arith

pub returns : goal.returns
returns c =
    let p = c.requires in
    put-done p.0 p.1 c.span_of-from.ensures c.put_mark.ensures c.rewrite-n.ensures refl c.put_length.ensures
