-- One law for each way out. Assumes nothing.
use Rattle.folding.proofs.Pairs.{two-room, join-left-done, join-right-done, join-skip-done, join-keep-done, join-made}
use native.Mathlib.Omega.{arith}
use Rattle.folding.proofs.results.fold_join.Goals as goal

pub returns-then-l-d : goal.returns-then-l-d
returns-then-l-d c = λ f g fs e s. join-left-done s _ _ _ c.deciding-d.ensures c.if-l-d.true (omega (arith, c.note_length.ensures))

pub returns-then-r-d : goal.returns-then-r-d
returns-then-r-d c = λ f g fs e s. join-right-done s _ _ _ c.deciding-d.ensures c.if-r-d.true (omega (arith, c.note_length-then-r-d.ensures))

pub returns-then-l-lt2 : goal.returns-then-l-lt2
returns-then-l-lt2 c = λ f g fs e s. join-skip-done s _ _ c.deciding-d.ensures c.if-l-d.false c.if-l-lt2.true

pub returns-then-r-lt2 : goal.returns-then-r-lt2
returns-then-r-lt2 c = λ f g fs e s. join-keep-done s _ _ c.deciding-d.ensures c.if-r-d.false c.if-l-lt2.false c.if-r-lt2.true

pub returns : goal.returns
returns c = λ f g fs e s. join-made s _ (two-room c.requires).low _ _ e c.if-l-lt2.false c.if-r-lt2.false (omega arith)

pub overflow_sub-v : goal.overflow_sub-v
overflow_sub-v c = let r = two-room c.requires in let l = r.low in omega arith

pub overflow_add-notes-2 : goal.overflow_add-notes-2
overflow_add-notes-2 c = let r = two-room c.requires in omega arith
