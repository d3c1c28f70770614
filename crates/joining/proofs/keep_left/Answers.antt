-- Its notes go with a join, and nothing but its length with another formula. Assumes nothing.
use mathlib.Core.Path.{sym}
use Rattle.joining.proofs.Joinings.{pairing, keeps-joined, keeps-plain}
use native.Mathlib.Omega.{arith}
use Rattle.joining.proofs.keep_left.Goals as goal

pub bounds-p-w : goal.bounds-p-w
bounds-p-w c = let a = c.requires in let k = pairing a.stack a.left-long (sym a.right-long) in omega arith

pub raise-requires : goal.raise-requires
raise-requires c = let a = c.requires in let k = pairing a.stack a.left-long (sym a.right-long) in omega arith

pub raise_notes-requires : goal.raise_notes-requires
raise_notes-requires c = let a = c.requires in let k = pairing a.stack a.left-long (sym a.right-long) in omega arith

pub narrow-requires : goal.narrow-requires
narrow-requires c = let a = c.requires in let k = pairing a.stack a.left-long (sym a.right-long) in omega arith

pub returns : goal.returns
returns c = let r = c.raise in keeps-plain c.requires r.ensures r.auto.p (c.is_join.ensures c.if-is_join.false) c.narrow.ensures

pub returns-then-is_join : goal.returns-then-is_join
returns-then-is_join c = let r = c.raise in let n = c.raise_notes in keeps-joined c.requires r.ensures r.auto.p n.ensures n.auto.notes
