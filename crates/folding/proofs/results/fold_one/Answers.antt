-- Over a constant, or a formula that is none. Assumes nothing.
use Rattle.folding.proofs.Made.{one-room, one-fixed, one-made}
use native.Mathlib.Omega.{arith}
use Rattle.folding.proofs.results.fold_one.Goals as goal

pub returns-then-n-lt2 : goal.returns-then-n-lt2
returns-then-n-lt2 c = λ f fs e s. one-fixed s _ _ c.if-n-lt2.true c.of_constant.ensures

pub returns : goal.returns
returns c = λ f fs e s. one-made s c.requires.some _ _ _ e c.if-n-lt2.false (omega arith)

pub overflow_add-notes : goal.overflow_add-notes
overflow_add-notes c = let r = one-room c.requires in omega arith
