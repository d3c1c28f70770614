-- What is kept is moved to the results, and nothing is known of it but its length. Assumes nothing.
use Rattle.sweeping.proofs.Wholes.{whole_in, keeping-in, keeps-whole}
use native.Mathlib.Omega.{arith}
use Rattle.sweeping.proofs.keep_whole.Goals as goal

pub overflow_sub-a : goal.overflow_sub-a
overflow_sub-a c = let a = whole_in c.requires in omega arith

pub bounds-p-a : goal.bounds-p-a
bounds-p-a c = let a = whole_in c.requires in omega arith

pub kept_from-from-requires : goal.kept_from-from-requires
kept_from-from-requires c = let a = whole_in c.requires in omega arith

pub overflow_sub-m : goal.overflow_sub-m
overflow_sub-m c = let k = keeping-in c.requires c.kept_from-from.ensures in omega arith

pub overflow_sub-v : goal.overflow_sub-v
overflow_sub-v c = let k = keeping-in c.requires c.kept_from-from.ensures in omega arith

pub overflow_sub-w : goal.overflow_sub-w
overflow_sub-w c = let k = keeping-in c.requires c.kept_from-from.ensures in omega arith

pub raise-requires : goal.raise-requires
raise-requires c = let k = keeping-in c.requires c.kept_from-from.ensures in omega arith

pub forget-requires : goal.forget-requires
forget-requires c = let k = keeping-in c.requires c.kept_from-from.ensures in let z = c.raise.auto.p in (omega arith, omega arith, omega arith)

pub narrow-requires : goal.narrow-requires
narrow-requires c = let k = keeping-in c.requires c.kept_from-from.ensures in omega arith

pub returns : goal.returns
returns c = let r = c.raise in let g = c.forget in keeps-whole c.requires c.kept_from-from.ensures r.ensures r.auto.p g.ensures g.auto.notes c.narrow.ensures

pub bounds-notes-v : goal.bounds-notes-v
bounds-notes-v c =
    let k = keeping-in c.requires c.kept_from-from.ensures in let z = c.forget.auto.notes in omega arith
