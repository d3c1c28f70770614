-- One law for each way out. Assumes nothing.
use mathlib.Core.Path.{refl}
use Prim.Native.Nat.{◌-◌}
use lib.ListN.{length-set}
use Rattle.folding.proofs.Pairs.{two-room, until-right-done, until-left-done, until-true-done, until-made}
use native.Mathlib.Omega.{arith}
use Rattle.folding.proofs.results.fold_until.Goals as goal

pub returns-then-r-lt2 : goal.returns-then-r-lt2
returns-then-r-lt2 c = λ f g fs e s. until-right-done s _ c.if-r-lt2.true (omega (arith, c.note_length.ensures))

pub returns-then-l-eq0 : goal.returns-then-l-eq0
returns-then-l-eq0 c = λ f g fs e s. until-left-done s c.if-l-eq0.true

pub returns-then-l-lt2 : goal.returns-then-l-lt2
returns-then-l-lt2 c = λ f g fs e s. until-true-done s ((two-room c.requires).lower c.if-l-lt2.true) _ c.if-l-lt2.true c.if-l-eq0.false c.if-r-lt2.false (omega arith)

pub returns : goal.returns
returns c = λ f g fs e s. until-made s (two-room c.requires).low _ _ refl c.if-l-lt2.false c.if-r-lt2.false (omega arith)

pub overflow_sub-p-then-l-lt2 : goal.overflow_sub-p-then-l-lt2
overflow_sub-p-then-l-lt2 c = let r = two-room c.requires in let i = r.inside in let k = r.low in let l = length-set c.args.p.now (c.args.w - 1) 1 in omega arith

pub overflow_sub-p : goal.overflow_sub-p
overflow_sub-p c = let l = (two-room c.requires).low in omega arith

pub overflow_sub-result : goal.overflow_sub-result
overflow_sub-result c = let l = (two-room c.requires).lower c.if-l-lt2.true in omega arith

pub overflow_add-notes : goal.overflow_add-notes
overflow_add-notes c = let r = two-room c.requires in omega arith

pub overflow_sub-v : goal.overflow_sub-v
overflow_sub-v c = let l = (two-room c.requires).low in omega arith

pub overflow_add-notes-2 : goal.overflow_add-notes-2
overflow_add-notes-2 c = let r = two-room c.requires in omega arith
