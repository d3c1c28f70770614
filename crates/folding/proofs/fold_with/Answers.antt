-- The notes are N, as many as the formula has bytes at least. Assumes nothing.
use native.Mathlib.Omega.{arith}
use Rattle.folding.proofs.fold_with.Goals as goal

pub fold_noted-requires : goal.fold_noted-requires
fold_noted-requires g c =
    let a = c.requires.asks in
    record { of = record { formula = a.formula; front = a.front; few = omega arith; fits = a.fits; room = a.room }; beside = omega arith }
