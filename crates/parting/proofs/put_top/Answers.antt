-- There is room for the token and for each operand that is put; what stands then is a law for each number of operands. Assumes nothing.
use mathlib.Core.Path.{◌≡◌}
use native.Mathlib.Omega.{arith}
use lib.ListN.{length-set}
use Rattle.parting.proofs.Putting.{put-none, put_one, put_two, two-left}
use Rattle.parting.proofs.put_top.Goals as goal

pub narrow-requires : goal.narrow-requires
narrow-requires c = c.requires.2.token

pub returns-then-t-eq0 : goal.returns-then-t-eq0
returns-then-t-eq0 c = rw c.narrow.ensures (put-none _ _ _ _ c.requires.1 c.requires.0 c.if-t-eq0.true)

pub narrow-requires-then-t-eq1 : goal.narrow-requires-then-t-eq1
narrow-requires-then-t-eq1 c = let o = c.if-t-eq1.true in c.requires.2.left (omega arith)

pub returns-then-t-eq1 : goal.returns-then-t-eq1
returns-then-t-eq1 c = rw c.narrow.ensures (rw c.narrow-then-t-eq1.ensures (put_one _ _ _ _ c.requires.1 c.requires.0 c.if-t-eq1.true))

pub narrow-requires-2 : goal.narrow-requires-2
narrow-requires-2 c =
    let two : c.args.t.operands ≡ 2 = two-left _ c.if-t-eq0.false c.if-t-eq1.false c.requires.2.few in
    c.requires.2.right (omega arith)

pub bounds-desk-rest-2 : goal.bounds-desk-rest-2
bounds-desk-rest-2 c =
    let two : c.args.t.operands ≡ 2 = two-left _ c.if-t-eq0.false c.if-t-eq1.false c.requires.2.few in
    let r = c.requires.0 in let i = c.requires.1 in
    let n = length-set c.args.desk.now c.args.w c.narrow.result in omega arith

pub narrow-requires-3 : goal.narrow-requires-3
narrow-requires-3 c =
    let two : c.args.t.operands ≡ 2 = two-left _ c.if-t-eq0.false c.if-t-eq1.false c.requires.2.few in
    c.requires.2.left (omega arith)

pub returns : goal.returns
returns c =
    let two : c.args.t.operands ≡ 2 = two-left _ c.if-t-eq0.false c.if-t-eq1.false c.requires.2.few in
    rw c.narrow.ensures (rw c.narrow-2.ensures (rw c.narrow-3.ensures (put_two _ _ _ _ c.requires.1 c.requires.0 two)))
