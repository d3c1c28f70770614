-- The store puts next at its place, and the copy puts the bytes behind it: `put-behind` is both together. Assumes nothing.
use mathlib.Core.Path.{refl, ap}
use Prim.Native.Nat.{◌+◌}
use native.Mathlib.Omega.{arith}
use lib.ListN.{set, take, drop, length-set}
use Rattle.unfolding.proofs.Puts.{put-behind}
use Rattle.unfolding.proofs.put_next.Goals as goal

pub bounds-out-w : goal.bounds-out-w
bounds-out-w c = omega arith

pub put-requires : goal.put-requires
put-requires c = let a = c.args in let l = length-set a.out.now a.w 5 in (omega arith, omega arith)

pub narrow-requires : goal.narrow-requires
narrow-requires c = omega arith

pub offset_bounds-notes-w : goal.offset_bounds-notes-w
offset_bounds-notes-w c = omega arith

pub returns : goal.returns
returns c =
    let a = c.args in
    (refl, put-behind a.out.now (take a.n (drop a.a a.s.now)) a.w 5 a.n (omega arith) c.put.ensures, ap (set a.notes.now (a.w + a.n)) c.narrow.ensures)
