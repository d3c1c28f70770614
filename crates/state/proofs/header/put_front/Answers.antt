-- The state has room for the header and the boards' records behind it (`room`), and every number fits its bytes; both are put.
-- Assumes nothing.
use mathlib.Core.Path.{◌≡◌}
use Prim.Native.Nat.{◌+◌, ◌<◌, ◌≤◌}
use lib.ListN.{length}
use native.Mathlib.Omega.{arith}
use Rattle.lists.proofs.Parts.{tail-length}
use Rattle.state.specs.Form.{form_in, boards_at, slots_at}
use Rattle.state.proofs.Fronts.{FrontRoom, front-room, boards-fit, front-done}
use Rattle.state.proofs.Places.{place_is}
use Rattle.state.proofs.header.put_front.Goals as goal

pub overflow_cast-slots : goal.overflow_cast-slots
overflow_cast-slots c =
    let room : FrontRoom c.args.s.now (length c.args.masks.now) c.args.slots = front-room _ c.requires.0 c.requires.1 c.requires.2 in
    record { fits = omega arith }

pub overflow_cast-records : goal.overflow_cast-records
overflow_cast-records c =
    let room : FrontRoom c.args.s.now (length c.args.masks.now) c.args.slots = front-room _ c.requires.0 c.requires.1 c.requires.2 in
    let records-at : c.board_at-records.result ≡ slots_at (form_in c.args.s.now) (length c.args.masks.now) = place_is c.args.s.now (length c.args.masks.now) c.from-form.ensures c.board_at-records.ensures in
    record { fits = omega arith }

pub rows-requires : goal.rows-requires
rows-requires c =
    let room : FrontRoom c.args.s.now (length c.args.masks.now) c.args.slots = front-room _ c.requires.0 c.requires.1 c.requires.2 in
    omega arith

pub overflow_add-records : goal.overflow_add-records
overflow_add-records c =
    let room : FrontRoom c.args.s.now (length c.args.masks.now) c.args.slots = front-room _ c.requires.0 c.requires.1 c.requires.2 in
    let records-at : c.board_at-records.result ≡ slots_at (form_in c.args.s.now) (length c.args.masks.now) = place_is c.args.s.now (length c.args.masks.now) c.from-form.ensures c.board_at-records.ensures in
    let nodes-at : c.board_at-records.result + c.rows.result < 65536 = let q = c.rows.ensures in omega arith in
    record { fits = omega arith }

pub overflow_cast-records-2 : goal.overflow_cast-records-2
overflow_cast-records-2 c =
    let room : FrontRoom c.args.s.now (length c.args.masks.now) c.args.slots = front-room _ c.requires.0 c.requires.1 c.requires.2 in
    let records-at : c.board_at-records.result ≡ slots_at (form_in c.args.s.now) (length c.args.masks.now) = place_is c.args.s.now (length c.args.masks.now) c.from-form.ensures c.board_at-records.ensures in
    let nodes-at : c.board_at-records.result + c.rows.result < 65536 = let q = c.rows.ensures in omega arith in
    record { fits = omega arith }

pub put_header-requires : goal.put_header-requires
put_header-requires c =
    let room : FrontRoom c.args.s.now (length c.args.masks.now) c.args.slots = front-room _ c.requires.0 c.requires.1 c.requires.2 in
    omega arith

pub put_boards-requires : goal.put_boards-requires
put_boards-requires c =
    let room : FrontRoom c.args.s.now (length c.args.masks.now) c.args.slots = front-room _ c.requires.0 c.requires.1 c.requires.2 in
    let head : boards_at ≤ length c.put_header.new.s = let k = c.put_header.auto.s in omega arith in
    let t = tail-length boards_at c.put_header.new.s in let k = c.put_header.auto.s in (c.requires.1, boards-fit c.args.s.now (length c.args.masks.now) c.from-form.ensures (room).boards (omega arith))

pub returns : goal.returns
returns c =
    let g = c.args in
    let e = place_is g.s.now (length g.masks.now) c.from-form.ensures c.board_at-records.ensures in (
      e,
      front-done g.s.now g.masks.now g.slots g.nodes g.ticks c.from-form.ensures e c.rows.ensures c.put_header.ensures c.put_boards.ensures,
    )
