-- By the kind of the byte: a law for each way out. Assumes nothing.
use Rattle.choices.proofs.Waits.{node-leaf-ask, node-one-ask, node-two-ask, node-leaf, node-one, node-two, node-nothing}
use native.Mathlib.Omega.{arith}
use Rattle.choices.proofs.mark_node.Goals as goal

pub owner_of-requires : goal.owner_of-requires
owner_of-requires c = ((node-leaf-ask c.from-k.ensures c.in-Zero.is c.requires).coded, c.requires.table)

pub overflow_sub-low : goal.overflow_sub-low
overflow_sub-low c = (node-leaf-ask c.from-k.ensures c.in-Zero.is c.requires).low

pub over_none-x-requires : goal.over_none-x-requires
over_none-x-requires c = let x = (node-leaf-ask c.from-k.ensures c.in-Zero.is c.requires) in (c.owner_of.ensures.1, omega arith, omega arith)

pub bounds-marks-i : goal.bounds-marks-i
bounds-marks-i c = (node-leaf-ask c.from-k.ensures c.in-Zero.is c.requires).inside

pub bounds-marks-i-in-One : goal.bounds-marks-i-in-One
bounds-marks-i-in-One c = (node-one-ask c.from-k.ensures c.in-One.is c.requires).inside

pub over_one-x-requires : goal.over_one-x-requires
over_one-x-requires c = (node-one-ask c.from-k.ensures c.in-One.is c.requires).asks

pub bounds-marks-i-in-One-2 : goal.bounds-marks-i-in-One-2
bounds-marks-i-in-One-2 c = let l = (node-one-ask c.from-k.ensures c.in-One.is c.requires).inside in omega arith

pub bounds-marks-i-in-Two : goal.bounds-marks-i-in-Two
bounds-marks-i-in-Two c = (node-two-ask c.from-k.ensures c.in-Two.is c.requires).inside

pub overflow_add-r-in-Two : goal.overflow_add-r-in-Two
overflow_add-r-in-Two c = let x = (node-two-ask c.from-k.ensures c.in-Two.is c.requires) in let l = x.second in let m = x.few in let e = c.length_of.ensures.0 in record { fits = omega arith }

pub bounds-marks-i-in-Two-2 : goal.bounds-marks-i-in-Two-2
bounds-marks-i-in-Two-2 c = let l = (node-two-ask c.from-k.ensures c.in-Two.is c.requires).second in let e = c.length_of.ensures.0 in omega arith

pub over_two-x-requires : goal.over_two-x-requires
over_two-x-requires c = rw c.length_of.ensures.0 (node-two-ask c.from-k.ensures c.in-Two.is c.requires).asks

pub bounds-marks-i-in-Two-3 : goal.bounds-marks-i-in-Two-3
bounds-marks-i-in-Two-3 c = let l = (node-two-ask c.from-k.ensures c.in-Two.is c.requires).inside in omega arith

pub returns-in-Zero : goal.returns-in-Zero
returns-in-Zero c = let x = (node-leaf-ask c.from-k.ensures c.in-Zero.is c.requires) in node-leaf c.from-k.ensures c.in-Zero.is x.inside (let l = x.low in omega arith) c.owner_of.ensures.0 c.owner_of.ensures.1 c.over_none-x.ensures

pub returns-in-One : goal.returns-in-One
returns-in-One c = node-one c.from-k.ensures c.in-One.is (let l = (node-one-ask c.from-k.ensures c.in-One.is c.requires).inside in omega arith) c.over_one-x.ensures

pub returns-in-Two : goal.returns-in-Two
returns-in-Two c = node-two c.from-k.ensures c.in-Two.is (let l = (node-two-ask c.from-k.ensures c.in-Two.is c.requires).inside in omega arith) (rw c.length_of.ensures.0 at c.over_two-x.ensures)

pub returns-in-NoCode : goal.returns-in-NoCode
returns-in-NoCode c = node-nothing c.from-k.ensures c.in-NoCode.is
