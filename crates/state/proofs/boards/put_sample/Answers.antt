-- The sample is put behind the mask, and the flag behind it; both are in the board's record, which is in the state. Assumes nothing.
use mathlib.Core.Path.{◌≡◌, ap, ◌∙◌}
use mathlib.Core.List.{List, [], ◌∷◌, ◌++◌}
use Prim.Native.Nat.{ℕ, ◌+◌, ◌<◌, ◌≤◌}
use lib.ListN.{length, set}
use native.Mathlib.Omega.{arith}
use Rattle.le.specs.Le.{le}
use Rattle.state.specs.Form.{form_in, board_at}
use Rattle.state.specs.Writes.{sample_given, put_at}
use Rattle.state.proofs.Forms.{board-few}
use Rattle.state.proofs.Places.{board-within, place_is}
use Rattle.state.proofs.Putting.{sample-put}
use Rattle.state.proofs.boards.put_sample.Goals as goal

given-at : (s : List ℕ) (i bits : ℕ) {at : ℕ} → at ≡ board_at (form_in s) i → put_at (at + 8) (le 8 bits ++ (1 ∷ [])) s ≡ sample_given s i bits
unfolding sample_given
given-at s i bits e = ap (λ (n : ℕ). put_at (n + 8) (le 8 bits ++ (1 ∷ [])) s) e

pub overflow_add-at : goal.overflow_add-at
overflow_add-at c =
    let record-at : c.board_at-at.result ≡ board_at (form_in c.args.s.now) c.args.i = place_is c.args.s.now c.args.i c.from-form.ensures c.board_at-at.ensures in
    let few : c.board_at-at.result < 65536 = let f = board-few (form_in c.args.s.now) c.args.i in let p = c.requires.1 in omega arith in
    record { fits = omega arith }

pub put_u64-requires : goal.put_u64-requires
put_u64-requires c =
    let record-at : c.board_at-at.result ≡ board_at (form_in c.args.s.now) c.args.i = place_is c.args.s.now c.args.i c.from-form.ensures c.board_at-at.ensures in
    let within : c.board_at-at.result + 17 ≤ length c.args.s.now = let w = board-within c.args.s.now c.requires.0 c.args.i c.requires.1 in omega arith in
    omega arith

pub overflow_add-s : goal.overflow_add-s
overflow_add-s c =
    let record-at : c.board_at-at.result ≡ board_at (form_in c.args.s.now) c.args.i = place_is c.args.s.now c.args.i c.from-form.ensures c.board_at-at.ensures in
    let few : c.board_at-at.result < 65536 = let f = board-few (form_in c.args.s.now) c.args.i in let p = c.requires.1 in omega arith in
    record { fits = omega arith }

pub bounds-s-at : goal.bounds-s-at
bounds-s-at c =
    let record-at : c.board_at-at.result ≡ board_at (form_in c.args.s.now) c.args.i = place_is c.args.s.now c.args.i c.from-form.ensures c.board_at-at.ensures in
    let within : c.board_at-at.result + 17 ≤ length c.args.s.now = let w = board-within c.args.s.now c.requires.0 c.args.i c.requires.1 in omega arith in
    let k = c.put_u64.auto.s in omega arith

pub returns : goal.returns
returns c =
    let record-at : c.board_at-at.result ≡ board_at (form_in c.args.s.now) c.args.i = place_is c.args.s.now c.args.i c.from-form.ensures c.board_at-at.ensures in
    let within : c.board_at-at.result + 17 ≤ length c.args.s.now = let w = board-within c.args.s.now c.requires.0 c.args.i c.requires.1 in omega arith in
    ap (λ (x : List ℕ). set x (c.board_at-at.result + 8 + 8) 1) c.put_u64.ensures
    ∙ sample-put c.args.s.now (c.board_at-at.result + 8) c.args.bits (omega arith)
    ∙ given-at _ _ _ (record-at)
