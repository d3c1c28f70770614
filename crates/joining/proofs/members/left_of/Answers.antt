-- A length that was noted, or one that is looked for. Assumes nothing.
use Rattle.joining.proofs.Chains.{left_in, left-begins, left-fits, left-noted, left-found}
use native.Mathlib.Omega.{arith}
use Rattle.joining.proofs.members.left_of.Goals as goal

pub overflow_add-left : goal.overflow_add-left
overflow_add-left c = let l = left_in c.requires in omega arith

pub offset_bounds-notes-left : goal.offset_bounds-notes-left
offset_bounds-notes-left c = let l = left_in c.requires in omega arith

pub bounds-notes-left : goal.bounds-notes-left
bounds-notes-left c = let l = left_in c.requires in omega arith

pub returns-then-known-gt0 : goal.returns-then-known-gt0
returns-then-known-gt0 c = left-noted c.from-known.ensures c.if-known-gt0.true

pub slice_bounds-operand_end-count : goal.slice_bounds-operand_end-count
slice_bounds-operand_end-count c = let l = left_in c.requires in omega arith

pub slice_bounds-operand_end-start : goal.slice_bounds-operand_end-start
slice_bounds-operand_end-start c = let l = left_in c.requires in omega arith

pub operand_end-n-requires : goal.operand_end-n-requires
operand_end-n-requires c = left-begins c.requires

pub narrow-requires : goal.narrow-requires
narrow-requires c = let f = left-fits c.requires c.operand_end-n.ensures in omega arith

pub offset_bounds-notes-left-2 : goal.offset_bounds-notes-left-2
offset_bounds-notes-left-2 c = let l = left_in c.requires in omega arith

pub bounds-notes-left-2 : goal.bounds-notes-left-2
bounds-notes-left-2 c = let l = left_in c.requires in omega arith

pub returns : goal.returns
returns c = left-found c.operand_end-n.ensures c.narrow.ensures
