-- What stands at the end is moved to the front. Assumes nothing.
use mathlib.Core.Path.{refl}
use Rattle.rewriting.proofs.Results.{fronted}
use native.Mathlib.Omega.{arith}
use Rattle.rewriting.proofs.to_front.Goals as goal

pub overflow_sub-n : goal.overflow_sub-n
overflow_sub-n c = let a = c.requires in let s = c.sweep-w.ensures a.formula a.front in let i = s.1 in omega arith

pub slide-requires : goal.slide-requires
slide-requires c = let a = c.requires in let s = c.sweep-w.ensures a.formula a.front in let i = s.1 in omega arith

pub returns : goal.returns
returns c = fronted _ _ _ _ _ _ c.sweep-w.ensures refl c.slide.ensures
