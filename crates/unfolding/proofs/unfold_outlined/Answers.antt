use mathlib.Core.Path.{refl}
use native.Mathlib.Omega.{arith}
use lib.ListN.{length-set}
use Rattle.unfolding.proofs.Goings.{notes-some, going_start, going-busy, going_done}
use Rattle.unfolding.proofs.unfold_outlined.Goals as goal

pub overflow_sub-k : goal.overflow_sub-k
overflow_sub-k c = let h = notes-some c.requires in omega arith

pub bounds-notes-k : goal.bounds-notes-k
bounds-notes-k c = let h = notes-some c.requires in omega arith

pub loop-k-init : goal.loop-k-init
loop-k-init c = (going_start c.requires, refl, simp length-set)

pub unfold_turn-t-requires : goal.unfold_turn-t-requires
unfold_turn-t-requires c = let i = c.loop-k.invariant in going-busy i.0 (let l = i.2 in let h = c.loop-k-test.true in omega arith)

pub returns : goal.returns
returns c = let i = c.loop-k.invariant in going_done i.0 (let l = i.2 in let h = c.loop-k-test.false in omega arith)
