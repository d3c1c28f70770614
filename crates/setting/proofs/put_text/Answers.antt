-- The text lies inside the bytes, and there is room for it behind next. Assumes nothing.
use mathlib.Core.Path.{ap}
use lib.ListN.{length, set, length-set}
use native.Mathlib.Omega.{arith}
use Rattle.lists.proofs.Parts.{tail-length}
use Rattle.setting.proofs.Writing.{text-part, text-done}
use Rattle.setting.proofs.put_text.Goals as goal

pub slice_bounds-copy-count : goal.slice_bounds-copy-count
slice_bounds-copy-count c = simp length-set (omega arith)

pub slice_bounds-copy-start : goal.slice_bounds-copy-start
slice_bounds-copy-start c = simp length-set (omega arith)

pub copy-requires : goal.copy-requires
copy-requires c =
    let a = c.args in
    let e = ap length (text-part a.bytes.now a.marks.now a.at c.length_of-n.result c.length_of-n.ensures.0) in
    let t = tail-length 1 (set a.out.now 0 5) in
    let s = length-set a.out.now 0 5 in
    let p = c.requires.1 in omega arith

pub returns : goal.returns
returns c =
    let p = c.requires.1 in
    text-done _ _ _ _ _ _ c.requires.0 (omega arith) c.length_of-n.ensures.0 c.copy.ensures
