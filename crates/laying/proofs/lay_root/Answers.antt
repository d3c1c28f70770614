-- A record, and the parts behind it. Assumes nothing.
use mathlib.Core.Path.{sym}
use lib.ListN.{get_or}
use Rattle.tagging.proofs.Packing.{Has}
use Rattle.laying.proofs.Rooting.{root-tagged, root-begun, root-lays}
use native.Mathlib.Omega.{arith}
use Rattle.laying.proofs.lay_root.Goals as goal

pub bounds-tags-0 : goal.bounds-tags-0
bounds-tags-0 c = root-tagged c.requires

pub overflow_cast-n : goal.overflow_cast-n
overflow_cast-n c =
    let h : Has (get_or c.args.tags.now 0 0) c.length_of-n.result c.board_of-board.result = record { here-is = sym c.length_of-n.ensures; board-is = sym c.board_of-board.ensures } in
    let n = root-begun c.requires h in
    omega arith

pub cut_parts-requires : goal.cut_parts-requires
cut_parts-requires c =
    let h : Has (get_or c.args.tags.now 0 0) c.length_of-n.result c.board_of-board.result = record { here-is = sym c.length_of-n.ensures; board-is = sym c.board_of-board.ensures } in
    (root-begun c.requires h).asks c.put_record.new.r c.put_record.auto.r

pub returns : goal.returns
returns c =
    let h : Has (get_or c.args.tags.now 0 0) c.length_of-n.result c.board_of-board.result = record { here-is = sym c.length_of-n.ensures; board-is = sym c.board_of-board.ensures } in
    root-lays c.args.r.now h c.put_record.ensures c.cut_parts.ensures
