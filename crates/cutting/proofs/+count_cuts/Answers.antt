-- The bytes begin with a formula, and its first byte's kind says which operands stand behind it: so each part lent is there, begins
-- with an operand, and is shorter. The node on top of its operands is a function of its own. Assumes nothing.
use Rattle.std.proofs.Common.{refl, arith}
use Rattle.nodes.proofs.Fronts.{parts-as, begins-some, front-begins, no_code, leaf-within}
use Rattle.nodes.proofs.Operands.{one_of, two-of, single-as, double-as, left-read}
use Rattle.cutting.proofs.Walks.{walked-leaf, walked-over-one, walked-over-two}
use Rattle.cutting.proofs.+count_cuts.Goals as goal

pub bounds-s-0 : goal.bounds-s-0
bounds-s-0 t c = begins-some _ c.requires.0

pub owner_of-requires : goal.owner_of-requires
owner_of-requires t c = (leaf-within (parts-as _ _ _ c.requires.0.front c.from-k.ensures c.in-Zero.is), c.requires.1)

-- ---- one operand
pub slice_bounds-count_cuts-count : goal.slice_bounds-count_cuts-count
slice_bounds-count_cuts-count t c = let x = one_of c.requires.0.front c.from-k.ensures c.in-One.is in omega arith

pub slice_bounds-count_cuts-start : goal.slice_bounds-count_cuts-start
slice_bounds-count_cuts-start t c = let x = one_of c.requires.0.front c.from-k.ensures c.in-One.is in omega arith

pub count_cuts-requires : goal.count_cuts-requires
count_cuts-requires t c =
    let x = one_of c.requires.0.front c.from-k.ensures c.in-One.is in
    (omega arith, (front-begins x.front, c.requires.1, omega arith))

pub over_one-requires : goal.over_one-requires
over_one-requires t c =
    let x = one_of c.requires.0.front c.from-k.ensures c.in-One.is in
    record { owner = _; formula = _; walked = c.count_cuts.ensures _ _ x.front; small = omega arith }

-- ---- two operands, of which the left one is walked over first
pub slice_bounds-count_cuts-count-in-Two : goal.slice_bounds-count_cuts-count-in-Two
slice_bounds-count_cuts-count-in-Two t c = let x = two-of c.requires.0.front c.from-k.ensures c.in-Two.is in omega arith

pub slice_bounds-count_cuts-start-in-Two : goal.slice_bounds-count_cuts-start-in-Two
slice_bounds-count_cuts-start-in-Two t c = let x = two-of c.requires.0.front c.from-k.ensures c.in-Two.is in omega arith

pub count_cuts-a-requires : goal.count_cuts-a-requires
count_cuts-a-requires t c =
    let x = two-of c.requires.0.front c.from-k.ensures c.in-Two.is in
    (omega arith, (front-begins x.front, c.requires.1, omega arith))

pub overflow_add-m : goal.overflow_add-m
overflow_add-m t c =
    let x = two-of c.requires.0.front c.from-k.ensures c.in-Two.is in
    let y = left-read x (c.count_cuts-a.ensures _ _ x.front).reads in omega arith

pub slice_bounds-count_cuts-count-in-Two-2 : goal.slice_bounds-count_cuts-count-in-Two-2
slice_bounds-count_cuts-count-in-Two-2 t c =
    let x = two-of c.requires.0.front c.from-k.ensures c.in-Two.is in
    let y = left-read x (c.count_cuts-a.ensures _ _ x.front).reads in omega arith

pub slice_bounds-count_cuts-start-in-Two-2 : goal.slice_bounds-count_cuts-start-in-Two-2
slice_bounds-count_cuts-start-in-Two-2 t c =
    let x = two-of c.requires.0.front c.from-k.ensures c.in-Two.is in
    let y = left-read x (c.count_cuts-a.ensures _ _ x.front).reads in omega arith

pub count_cuts-requires-in-Two : goal.count_cuts-requires-in-Two
count_cuts-requires-in-Two t c =
    let x = two-of c.requires.0.front c.from-k.ensures c.in-Two.is in
    let y = left-read x (c.count_cuts-a.ensures _ _ x.front).reads in
    (omega arith, (front-begins y.front, c.requires.1, omega arith))

pub over_two-requires : goal.over_two-requires
over_two-requires t c =
    let x = two-of c.requires.0.front c.from-k.ensures c.in-Two.is in
    let w = c.count_cuts-a.ensures _ _ x.front in
    let y = left-read x w.reads in
    record { owner = _; left = _; right = _; walked-left = w; walked-right = c.count_cuts-in-Two.ensures _ _ y.front; small = omega arith }

-- ---- the returns
pub returns-in-Zero : goal.returns-in-Zero
returns-in-Zero t c f rest y =
    walked-leaf (parts-as _ f rest y c.from-k.ensures c.in-Zero.is) c.owner_of.ensures.0 c.over_none.ensures

pub returns-in-One : goal.returns-in-One
returns-in-One t c f rest y =
    walked-over-one (single-as (one_of c.requires.0.front c.from-k.ensures c.in-One.is) refl y) c.count_cuts.ensures c.over_one.ensures

pub returns-in-Two : goal.returns-in-Two
returns-in-Two t c f rest y =
    walked-over-two (double-as (two-of c.requires.0.front c.from-k.ensures c.in-Two.is) refl y) c.count_cuts-a.ensures c.count_cuts-in-Two.ensures c.over_two.ensures

pub returns-in-NoCode : goal.returns-in-NoCode
returns-in-NoCode t c f rest y = absurd (no_code (parts-as _ f rest y c.from-k.ensures c.in-NoCode.is))
