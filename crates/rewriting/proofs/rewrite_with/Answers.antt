-- The notes are N, as many as the formula has bytes at least. Assumes nothing.
use native.Mathlib.Omega.{arith}
use Rattle.rewriting.proofs.rewrite_with.Goals as goal

pub rewrite_noted-requires : goal.rewrite_noted-requires
rewrite_noted-requires g c =
    let a = c.requires.asks in
    record { of = record { formula = a.formula; front = a.front; few = omega arith }; room = omega arith }
