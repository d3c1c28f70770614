-- Each test tells that the tokens say the same, or do not; behind the third both are texts that can be read. Assumes nothing.
use mathlib.Core.Path.{refl, ◌∙◌}
use native.Mathlib.Omega.{arith}
use Rattle.entering.proofs.Telling.{text-read, says-equal, says-low, says-high, texts-apart, texts-told}
use Rattle.entering.proofs.alike.Goals as goal

pub returns-then-t-u : goal.returns-then-t-u
returns-then-t-u c = says-equal _ _ _ _ c.if-t-u.true

pub returns-then-t-lt-TEXT : goal.returns-then-t-lt-TEXT
returns-then-t-lt-TEXT c = says-low _ _ _ _ c.if-t-u.false c.if-t-lt-TEXT.true c.requires.2

pub returns-then-u-lt-TEXT : goal.returns-then-u-lt-TEXT
returns-then-u-lt-TEXT c = says-high _ _ _ _ c.if-t-lt-TEXT.false c.if-u-lt-TEXT.true c.requires.1

pub bounds-marks-a : goal.bounds-marks-a
bounds-marks-a c =
    let x = text-read c.args.bytes.now c.args.marks.now c.args.t _ _ c.requires.1 c.if-t-lt-TEXT.false c.from-a.ensures refl in
    let s = x.some in let i = x.inside in omega arith

pub bounds-marks-b : goal.bounds-marks-b
bounds-marks-b c =
    let x = text-read c.args.bytes.now c.args.marks.now c.args.u _ _ c.requires.2 c.if-u-lt-TEXT.false c.from-b.ensures refl in
    let s = x.some in let i = x.inside in omega arith

pub returns-then-n-m : goal.returns-then-n-m
returns-then-n-m c =
    texts-apart _ _ _ _ _ _ _ _ c.if-t-lt-TEXT.false c.if-u-lt-TEXT.false c.from-a.ensures c.from-b.ensures c.length_of-n.ensures.0 c.length_of-m.ensures.0
    c.requires.1 c.requires.2 c.if-n-m.true

pub same-requires : goal.same-requires
same-requires c =
    let x = text-read c.args.bytes.now c.args.marks.now c.args.t _ _ c.requires.1 c.if-t-lt-TEXT.false c.from-a.ensures c.length_of-n.ensures.0 in
    let y = text-read c.args.bytes.now c.args.marks.now c.args.u _ _ c.requires.2 c.if-u-lt-TEXT.false c.from-b.ensures (c.if-n-m.false ∙ c.length_of-m.ensures.0) in
    let i = x.inside in let j = y.inside in (x.some, omega arith, omega arith)

pub returns : goal.returns
returns c =
    texts-told _ _ _ _ _ _ _ _ c.if-t-lt-TEXT.false c.if-u-lt-TEXT.false c.from-a.ensures c.from-b.ensures c.length_of-n.ensures.0 c.length_of-m.ensures.0
    c.if-n-m.false _ c.same.ensures
