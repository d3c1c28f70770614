-- The record begins with the board. Assumes nothing.
use mathlib.Core.Path.{ap}
use Prim.Native.Nat.{ℕ}
use lib.ListN.{get_or}
use native.Mathlib.Omega.{arith}
use Rattle.state.proofs.Places.{record-within, record_is}
use Rattle.state.proofs.slots.board_of.Goals as goal

pub bounds-s-c : goal.bounds-s-c
bounds-s-c c = let w = record-within _ _ c.requires.0 _ c.requires.1 in omega arith

pub returns : goal.returns
returns c = ap (λ (i : ℕ). get_or c.args.s.now i 0) (record_is c.requires.0.header _)
