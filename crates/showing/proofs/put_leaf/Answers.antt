-- The word of the leaf. Assumes nothing.
use mathlib.Core.Path.{ap}
use Prim.Native.Nat.{◌+◌, ◌≤◌}
use native.Mathlib.Omega.{arith}
use lib.ListN.{length, length-set}
use Rattle.kinds.specs.declared.Leaf.{Leaf}
use Rattle.text.specs.Printing.{leaf_text}
use Rattle.showing.proofs.Words.{put_byte, put_both, put-none, put_as}
use Rattle.showing.proofs.put_leaf.Goals as goal

pub put_constant-requires : goal.put_constant-requires
put_constant-requires c = let h = c.requires in let e = ap (λ (a : Leaf). length (leaf_text a)) c.in-Const.is in omega arith

pub put_digits-requires : goal.put_digits-requires
put_digits-requires c =
    let prop-space : c.args.at + length (leaf_text c.args.a) ≤ length c.args.text.now = c.requires in
    let e = ap (λ (a : Leaf). length (leaf_text a)) c.in-Prop.is in simp length-set (omega arith)

pub returns-in-Const : goal.returns-in-Const
returns-in-Const c = put_as (ap leaf_text c.in-Const.is) c.put_constant.ensures

pub returns-in-Prop : goal.returns-in-Prop
returns-in-Prop c =
    let prop-space : c.args.at + length (leaf_text c.args.a) ≤ length c.args.text.now = c.requires in
    let q = c.in-Prop.is in let e = ap (λ (a : Leaf). length (leaf_text a)) q in
    put_as (ap leaf_text q) (put_both (put_byte _ _ 112 (omega arith)) c.put_digits.ensures)

pub returns-in-Hold : goal.returns-in-Hold
returns-in-Hold c = put_as (ap leaf_text c.in-Hold.is) (put-none _ _)
