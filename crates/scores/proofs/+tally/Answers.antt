-- The bytes begin with a formula, and its first byte's kind says which operands stand behind it: so each part lent is there, begins
-- with an operand, and is shorter. No sum wraps, since no count is larger than its operand and both operands are in the bytes. Each
-- return is a law of `Counting`. Assumes nothing.
use Rattle.std.proofs.Common.{refl, arith}
use Rattle.nodes.proofs.Fronts.{parts-as, no_code, begins-some, front-begins, leaf-within}
use Rattle.nodes.proofs.Operands.{one_of, two-of, single-as, double-as, left-read}
use Rattle.scores.proofs.Counting.{scored-leaf, tallied-leaf, tallied-one, tallied-two}
use Rattle.scores.proofs.+tally.Goals as goal

pub bounds-s-0 : goal.bounds-s-0
bounds-s-0 t c = begins-some _ c.requires.0

pub owner_of-requires : goal.owner_of-requires
owner_of-requires t c = (leaf-within (parts-as _ _ _ c.requires.0.front c.from-k.ensures c.in-Zero.is), c.requires.1)

-- ---- one operand
pub slice_bounds-tally-count : goal.slice_bounds-tally-count
slice_bounds-tally-count t c = let x = one_of c.requires.0.front c.from-k.ensures c.in-One.is in omega arith

pub slice_bounds-tally-start : goal.slice_bounds-tally-start
slice_bounds-tally-start t c = let x = one_of c.requires.0.front c.from-k.ensures c.in-One.is in omega arith

pub tally-a-requires : goal.tally-a-requires
tally-a-requires t c =
    let x = one_of c.requires.0.front c.from-k.ensures c.in-One.is in
    (omega arith, (front-begins x.front, c.requires.1, omega arith))

pub overflow_add-result : goal.overflow_add-result
overflow_add-result t c =
    let x = one_of c.requires.0.front c.from-k.ensures c.in-One.is in
    let r = (c.tally-a.ensures _ _ x.front).0 in omega arith

-- ---- two operands, of which the left one is read first
pub slice_bounds-tally-count-in-Two : goal.slice_bounds-tally-count-in-Two
slice_bounds-tally-count-in-Two t c = let x = two-of c.requires.0.front c.from-k.ensures c.in-Two.is in omega arith

pub slice_bounds-tally-start-in-Two : goal.slice_bounds-tally-start-in-Two
slice_bounds-tally-start-in-Two t c = let x = two-of c.requires.0.front c.from-k.ensures c.in-Two.is in omega arith

pub tally-a-requires-in-Two : goal.tally-a-requires-in-Two
tally-a-requires-in-Two t c =
    let x = two-of c.requires.0.front c.from-k.ensures c.in-Two.is in
    (omega arith, (front-begins x.front, c.requires.1, omega arith))

pub overflow_add-m : goal.overflow_add-m
overflow_add-m t c =
    let x = two-of c.requires.0.front c.from-k.ensures c.in-Two.is in
    let y = left-read x (c.tally-a-in-Two.ensures _ _ x.front).0 in omega arith

pub slice_bounds-tally-count-in-Two-2 : goal.slice_bounds-tally-count-in-Two-2
slice_bounds-tally-count-in-Two-2 t c =
    let x = two-of c.requires.0.front c.from-k.ensures c.in-Two.is in
    let y = left-read x (c.tally-a-in-Two.ensures _ _ x.front).0 in omega arith

pub slice_bounds-tally-start-in-Two-2 : goal.slice_bounds-tally-start-in-Two-2
slice_bounds-tally-start-in-Two-2 t c =
    let x = two-of c.requires.0.front c.from-k.ensures c.in-Two.is in
    let y = left-read x (c.tally-a-in-Two.ensures _ _ x.front).0 in omega arith

pub tally-c-requires : goal.tally-c-requires
tally-c-requires t c =
    let x = two-of c.requires.0.front c.from-k.ensures c.in-Two.is in
    let y = left-read x (c.tally-a-in-Two.ensures _ _ x.front).0 in
    (omega arith, (front-begins y.front, c.requires.1, omega arith))

pub overflow_add-result-in-Two : goal.overflow_add-result-in-Two
overflow_add-result-in-Two t c =
    let x = two-of c.requires.0.front c.from-k.ensures c.in-Two.is in
    let y = left-read x (c.tally-a-in-Two.ensures _ _ x.front).0 in
    let r = (c.tally-c.ensures _ _ y.front).0 in omega arith

pub plus-requires : goal.plus-requires
plus-requires t c b =
    let x = two-of c.requires.0.front c.from-k.ensures c.in-Two.is in
    let a = c.tally-a-in-Two.ensures _ _ x.front in
    let y = left-read x a.0 in
    let l = a.1.few b in
    let r = (c.tally-c.ensures _ _ y.front).1.few b in omega arith

-- ---- the returns
pub returns-in-Zero : goal.returns-in-Zero
returns-in-Zero t c f rest y =
    tallied-leaf (parts-as _ f rest y c.from-k.ensures c.in-Zero.is) (scored-leaf c.owner_of.ensures.0 c.one.ensures)

pub returns-in-One : goal.returns-in-One
returns-in-One t c f rest y =
    tallied-one (single-as (one_of c.requires.0.front c.from-k.ensures c.in-One.is) refl y) c.tally-a.ensures

pub returns-in-Two : goal.returns-in-Two
returns-in-Two t c f rest y =
    rw c.plus.ensures (tallied-two (double-as (two-of c.requires.0.front c.from-k.ensures c.in-Two.is) refl y) c.tally-a-in-Two.ensures c.tally-c.ensures)

pub returns-in-NoCode : goal.returns-in-NoCode
returns-in-NoCode t c f rest y = absurd (no_code (parts-as _ f rest y c.from-k.ensures c.in-NoCode.is))
