-- The result at the front, and the rest cleared. Assumes nothing.
use Rattle.rewriting.proofs.Results.{fronted-fits, rewrite-done}
use native.Mathlib.Omega.{arith}
use Rattle.rewriting.proofs.rewrite.Goals as goal

pub slice_bounds-clear-count : goal.slice_bounds-clear-count
slice_bounds-clear-count c = let a = c.requires in let k = fronted-fits (c.rewrite_any-n.ensures a.formula a.front) in omega arith

pub slice_bounds-clear-start : goal.slice_bounds-clear-start
slice_bounds-clear-start c = let a = c.requires in let k = fronted-fits (c.rewrite_any-n.ensures a.formula a.front) in omega arith

pub returns : goal.returns
returns c = let r = c.rewrite_any-n in rewrite-done _ _ _ _ _ r.ensures r.auto.p c.clear.ensures
