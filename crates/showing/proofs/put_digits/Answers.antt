-- One digit, or two. Assumes nothing.
use mathlib.Core.Path.{ap}
use native.Mathlib.Omega.{arith}
use lib.ListN.{length, length-set}
use Rattle.showing.proofs.Words.{put_byte, put_two, put_as, digits-one, digits-two}
use Rattle.showing.proofs.put_digits.Goals as goal

pub bounds-text-at : goal.bounds-text-at
bounds-text-at c = omega (arith, ap length (digits-one c.args.n c.if-n-lt10.true))

pub returns-then-n-lt10 : goal.returns-then-n-lt10
returns-then-n-lt10 c =
    let d = digits-one c.args.n c.if-n-lt10.true in
    let e = ap length d in put_as d (put_byte c.args.text.now c.args.at _ (omega arith))

pub bounds-text-at-2 : goal.bounds-text-at-2
bounds-text-at-2 c = omega (arith, ap length (digits-two c.args.n c.if-n-lt10.false))

pub bounds-text-at-3 : goal.bounds-text-at-3
bounds-text-at-3 c = let e = ap length (digits-two c.args.n c.if-n-lt10.false) in simp length-set (omega arith)

pub returns : goal.returns
returns c =
    let d = digits-two c.args.n c.if-n-lt10.false in
    let e = ap length d in put_as d (put_two c.args.text.now c.args.at _ _ (omega arith))
