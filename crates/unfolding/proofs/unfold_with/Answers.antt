-- The notes are N, as many as what is written at least. Assumes nothing.
use native.Mathlib.Omega.{arith}
use Rattle.unfolding.proofs.Goings.{ask-outlined}
use Rattle.unfolding.proofs.unfold_with.Goals as goal

pub unfold_outlined-requires : goal.unfold_outlined-requires
unfold_outlined-requires g c = ask-outlined c.requires.asks c.requires.most (omega arith)

pub returns : goal.returns
returns g c = c.unfold_outlined.ensures.0
