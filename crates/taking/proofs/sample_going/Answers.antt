-- Each check has its way out, a law of proofs/Outcomes.antt; what a check that passed tells is said at the place behind it.
-- Assumes nothing.
use mathlib.Core.Path.{◌≡◌, sym, ap, ◌∙◌}
use Prim.Native.Nat.{◌<◌}
use lib.Bits.{bit_and}
use Rattle.state.specs.Fields.{boards_in, mask_in}
use Rattle.records.proofs.Opened.{opened-sized}
use Rattle.taking.proofs.Outcomes.{refused-nowhere, refused-outside, refused-already, done}
use native.Mathlib.Omega.{arith}
use Rattle.taking.proofs.sample_going.Goals as goal

pub returns-then-c-board : goal.returns-then-c-board
returns-then-c-board c =
    let p = c.requires in
    refused-nowhere _ _ _ p.0.passes p.1 (let q = p.0.header.boards-are in omega arith)

pub mask_of-requires : goal.mask_of-requires
mask_of-requires c = let z = opened-sized c.requires.0 in (z.long, omega arith)

pub returns-then-bits-mask_of : goal.returns-then-bits-mask_of
returns-then-bits-mask_of c =
    let p = c.requires in
    let there : c.args.board < boards_in c.args.state.now = let q = p.0.header.boards-are in omega arith in
    refused-outside _ _ _ p.0.passes p.1 there (λ q. c.if-bits-mask_of.true (ap (bit_and c.args.bits) c.mask_of.ensures ∙ q))

pub sampled_of-requires : goal.sampled_of-requires
sampled_of-requires c = let z = opened-sized c.requires.0 in (z.long, omega arith)

pub returns-then-sampled_of-ne0 : goal.returns-then-sampled_of-ne0
returns-then-sampled_of-ne0 c =
    let p = c.requires in
    let there : c.args.board < boards_in c.args.state.now = let q = p.0.header.boards-are in omega arith in
    let inside : bit_and c.args.bits (mask_in c.args.state.now c.args.board) ≡ c.args.bits = sym (ap (bit_and c.args.bits) c.mask_of.ensures) ∙ c.if-bits-mask_of.false in
    refused-already _ _ _ p.0.passes p.1 there inside (λ q. c.if-sampled_of-ne0.true (c.sampled_of.ensures ∙ q))

pub put_sample-requires : goal.put_sample-requires
put_sample-requires c = let z = opened-sized c.requires.0 in (z.long, omega arith)

pub returns : goal.returns
returns c =
    let p = c.requires in
    let there : c.args.board < boards_in c.args.state.now = let q = p.0.header.boards-are in omega arith in
    let inside : bit_and c.args.bits (mask_in c.args.state.now c.args.board) ≡ c.args.bits = sym (ap (bit_and c.args.bits) c.mask_of.ensures) ∙ c.if-bits-mask_of.false in
    done _ _ _ p.0.passes p.1 there inside (sym c.sampled_of.ensures ∙ c.if-sampled_of-ne0.false) c.put_sample.ensures
