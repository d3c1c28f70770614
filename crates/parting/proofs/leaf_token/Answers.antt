-- A place holder's number is a slot's, so the table has an entry for it; other leaves are their own token. Assumes nothing.
use native.Mathlib.Omega.{arith}
use Rattle.parting.proofs.Nodes.{hold-below, hold-token}
use Rattle.parting.proofs.leaf_token.Goals as goal

pub bounds-held-m : goal.bounds-held-m
bounds-held-m c = let l = c.requires.2 in let i = hold-below _ _ c.in-Hold.is c.requires.1 in omega arith

pub returns-in-Hold : goal.returns-in-Hold
returns-in-Hold c = hold-token _ _ _ _ _ c.in-Hold.is c.from-in-Hold.ensures c.from-in-Hold-2.ensures
