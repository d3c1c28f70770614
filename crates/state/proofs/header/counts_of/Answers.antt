-- The counts, and the places that they give. Assumes nothing.
use mathlib.Core.Path.{ap, ap₂, ◌∙◌}
use Prim.Native.Nat.{◌+◌, ◌≤◌}
use lib.ListN.{length}
use native.Mathlib.Omega.{arith}
use Rattle.state.specs.Form.{form_in, boards_at, board_at, slot_rows}
use Rattle.state.proofs.Forms.{board-few}
use Rattle.state.proofs.Places.{head-within, place_is}
use Rattle.state.proofs.header.counts_of.Goals as goal

pub u16_at-boards-requires : goal.u16_at-boards-requires
u16_at-boards-requires c =
    let head : boards_at ≤ length c.args.s.now = head-within c.args.s.now c.requires in
    omega arith

pub u16_at-slots-requires : goal.u16_at-slots-requires
u16_at-slots-requires c =
    let head : boards_at ≤ length c.args.s.now = head-within c.args.s.now c.requires in
    omega arith

pub u16_at-requires : goal.u16_at-requires
u16_at-requires c =
    let head : boards_at ≤ length c.args.s.now = head-within c.args.s.now c.requires in
    omega arith

pub overflow_add-result : goal.overflow_add-result
overflow_add-result c =
    let e = c.board_at-records.ensures in let r = c.rows.ensures in
    let f = board-few c.from-form.result c.u16_at-boards.result in
    record { fits = omega arith }

pub returns : goal.returns
returns c =
    let b = c.u16_at-boards.ensures in
    let s = c.args.s.now in
    let e = place_is s _ c.from-form.ensures c.board_at-records.ensures ∙ ap (board_at (form_in s)) b in
    let p = ap₂ ◌+◌ e (c.rows.ensures ∙ ap (slot_rows) c.u16_at-slots.ensures) in
    record { boards-are = b; slots-are = c.u16_at-slots.ensures; nodes-are = c.u16_at.ensures; records-at = e; stretches-at = p }
