-- What waits first is a bracket, or a sign, or nothing. Assumes nothing.
use mathlib.Core.Path.{refl}
use native.Mathlib.Omega.{arith}
use Rattle.showing.proofs.Ends.{ended-close, ended-sign, ended-all}
use Rattle.showing.proofs.put_waiting.Goals as goal

pub loop-first-preserved : goal.loop-first-preserved
loop-first-preserved c = λ gs whole x. (ended-close (c.loop-first.invariant gs whole x) c.loop-first-test.true c.if-level-ne0.false).shown

pub bounds-text-end : goal.bounds-text-end
bounds-text-end c =
    let a = c.requires in
    (ended-sign (c.loop-first.invariant a.others a.whole a.shown) c.loop-first-test.true c.if-level-ne0.true refl c.sign_before.ensures).space

pub overflow_add-result : goal.overflow_add-result
overflow_add-result c =
    let a = c.requires in
    let e = ended-sign (c.loop-first.invariant a.others a.whole a.shown) c.loop-first-test.true c.if-level-ne0.true refl c.sign_before.ensures in
    omega arith

pub returns-then-level-ne0 : goal.returns-then-level-ne0
returns-then-level-ne0 c = λ gs whole x. (ended-sign (c.loop-first.invariant gs whole x) c.loop-first-test.true c.if-level-ne0.true refl c.sign_before.ensures).showing

pub bounds-text-end-in-loop-first : goal.bounds-text-end-in-loop-first
bounds-text-end-in-loop-first c =
    let a = c.requires in
    (ended-close (c.loop-first.invariant a.others a.whole a.shown) c.loop-first-test.true c.if-level-ne0.false).space

pub overflow_add-end : goal.overflow_add-end
overflow_add-end c =
    let a = c.requires in
    let e = ended-close (c.loop-first.invariant a.others a.whole a.shown) c.loop-first-test.true c.if-level-ne0.false in
    omega arith

pub returns : goal.returns
returns c = λ gs whole x. ended-all (c.loop-first.invariant gs whole x) c.loop-first-test.false 0
