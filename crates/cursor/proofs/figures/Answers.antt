-- By the digit that stands here, where one does. Assumes nothing.
use mathlib.Core.Logic.{inl, inr}
use native.Mathlib.Omega.{arith}
use Rattle.cursor.proofs.Words.{digit_here, figures-zero, figures-large, figures-more}
use Rattle.cursor.proofs.figures.Goals as goal

pub returns-then-value-eq0 : goal.returns-then-value-eq0
returns-then-value-eq0 c =
    let f = c.loop-b.invariant in
    let l = c.in-Some.ensures.lookup.3 in
    let d = digit_here c.args.text.now c.loop-b.cur.byte (l.1 0) c.from.ensures c.in-Digit.is c.from-in-loop-b.ensures in
    elim c.then-value-eq0.either [ inl e ↦ figures-zero f l.0 d e c.wrong.ensures | inr e ↦ figures-large f l.0 d (omega arith) c.wrong.ensures ]

pub loop-b-preserved : goal.loop-b-preserved
loop-b-preserved c =
    let l = c.in-Some.ensures.lookup.3 in
    let d = digit_here c.args.text.now c.loop-b.cur.byte (l.1 0) c.from.ensures c.in-Digit.is c.from-in-loop-b.ensures in
    figures-more c.loop-b.invariant l.0 d c.past-cur.ensures c.if-value-eq0.false (omega arith)
