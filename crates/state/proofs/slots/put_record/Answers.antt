-- Four puts in a row, each inside a record that has room for all. Assumes nothing.
use mathlib.Core.Path.{◌≡◌}
use lib.ListN.{length, set, length-set}
use native.Mathlib.Omega.{arith}
use Rattle.state.proofs.Putting.{record-put}
use Rattle.state.proofs.slots.put_record.Goals as goal

pub bounds-r-1 : goal.bounds-r-1
bounds-r-1 c = let e = length-set c.args.r.now 0 c.args.board in let p = c.requires in omega arith

pub put_u16-requires : goal.put_u16-requires
put_u16-requires c =
    let same : let a = c.args in length (set (set a.r.now 0 a.board) 1 0) ≡ length a.r.now = simp length-set in
    let p = c.requires in omega arith

pub put_u16-requires-2 : goal.put_u16-requires-2
put_u16-requires-2 c =
    let same : let a = c.args in length (set (set a.r.now 0 a.board) 1 0) ≡ length a.r.now = simp length-set in
    let p = c.requires in let k = c.put_u16.auto.s in omega arith

pub returns : goal.returns
returns c = record-put c.args.r.now _ _ _ c.requires c.put_u16.ensures c.put_u16-2.ensures
