-- The flag stands behind the sample. Assumes nothing.
use mathlib.Core.Path.{◌≡◌, ap}
use Prim.Native.Nat.{ℕ, ◌+◌, ◌≤◌}
use native.Mathlib.Omega.{arith}
use lib.ListN.{get_or}
use Rattle.state.specs.Form.{form_in, board_at}
use Rattle.state.proofs.Places.{board-within, place_is}
use Rattle.state.proofs.Forms.{board-few}
use Rattle.state.proofs.boards.sampled_of.Goals as goal

pub overflow_add-result : goal.overflow_add-result
overflow_add-result c =
    let at : c.board_at.result ≡ board_at (form_in c.args.s.now) c.args.i = place_is c.args.s.now c.args.i c.from-form.ensures c.board_at.ensures in
    let within : c.board_at.result + 17 ≤ 65536 = let p = c.requires in let w = board-few (form_in c.args.s.now) c.args.i in omega arith in
    record { fits = omega arith }

pub bounds-s-board_at : goal.bounds-s-board_at
bounds-s-board_at c =
    let at : c.board_at.result ≡ board_at (form_in c.args.s.now) c.args.i = place_is c.args.s.now c.args.i c.from-form.ensures c.board_at.ensures in
    let a = c.args in let p = c.requires in let w = board-within a.s.now p.0 a.i p.1 in omega arith

pub returns : goal.returns
returns c =
    let at : c.board_at.result ≡ board_at (form_in c.args.s.now) c.args.i = place_is c.args.s.now c.args.i c.from-form.ensures c.board_at.ensures in
    ap (λ (n : ℕ). get_or c.args.s.now (n + 16) 0) (at)
