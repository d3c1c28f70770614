-- The record begins with the mask. Assumes nothing.
use mathlib.Core.Path.{◌≡◌, ap, ◌∙◌}
use Prim.Native.Nat.{ℕ}
use native.Mathlib.Omega.{arith}
use Rattle.le.specs.Le.{le_at}
use Rattle.state.specs.Form.{form_in, board_at}
use Rattle.state.proofs.Places.{board-within, place_is}
use Rattle.state.proofs.boards.mask_of.Goals as goal

pub u64_at-requires : goal.u64_at-requires
u64_at-requires c =
    let at : c.board_at.result ≡ board_at (form_in c.args.s.now) c.args.i = place_is c.args.s.now c.args.i c.from-form.ensures c.board_at.ensures in
    (let a = c.args in let p = c.requires in let w = board-within a.s.now p.0 a.i p.1 in omega arith)

pub returns : goal.returns
returns c =
    let at : c.board_at.result ≡ board_at (form_in c.args.s.now) c.args.i = place_is c.args.s.now c.args.i c.from-form.ensures c.board_at.ensures in
    c.u64_at.ensures ∙ ap (λ (n : ℕ). le_at c.args.s.now n 8) (at)
