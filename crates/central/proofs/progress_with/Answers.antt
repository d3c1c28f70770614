-- The notes are N, as many as p has bytes at least. Assumes nothing.
use native.Mathlib.Omega.{arith}
use Rattle.central.proofs.progress_with.Goals as goal

pub progress_noted-requires : goal.progress_noted-requires
progress_noted-requires g c =
    let a = c.requires.asks in
    record { of = record { whole = a.whole; front = a.front; long = a.long; few = omega arith }; beside = omega arith }
