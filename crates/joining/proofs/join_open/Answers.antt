-- A right operand that says nothing, one that has the left as a member, and both: a law for each way out. Assumes nothing.
use Rattle.joining.proofs.Joinings.{opened, open-comparable, open-one, opens_kept, opens-member, opens-both}
use native.Mathlib.Omega.{arith}
use Rattle.joining.proofs.join_open.Goals as goal

pub overflow_add-right : goal.overflow_add-right
overflow_add-right c = let k = opened c.requires.open' in omega arith

pub bounds-p-right : goal.bounds-p-right
bounds-p-right c = let k = opened c.requires.open' in omega arith

pub keep_left-requires : goal.keep_left-requires
keep_left-requires c = let a = c.requires in let o = a.open' in record { f = a.f; g = a.g; others = a.others; stack = o.stack; left-long = o.left-long; right-long = open-one (opened o) a.j o.pending o.not-settled c.if-p-right-lt2.true }

pub returns-then-p-right-lt2 : goal.returns-then-p-right-lt2
returns-then-p-right-lt2 c = opens_kept c.if-p-right-lt2.true c.keep_left.ensures

pub overflow_add-l : goal.overflow_add-l
overflow_add-l c = let k = opened c.requires.open' in omega arith

pub overflow_add-l-2 : goal.overflow_add-l-2
overflow_add-l-2 c = let k = opened c.requires.open' in omega arith

pub narrow-requires : goal.narrow-requires
narrow-requires c = let k = opened c.requires.open' in omega arith

pub is_member-requires : goal.is_member-requires
is_member-requires c = open-comparable c.requires.open'

pub returns-then-is_member : goal.returns-then-is_member
returns-then-is_member c = let m = c.is_member in opens-member c.if-p-right-lt2.false m.auto.notes m.ensures c.if-is_member.true

pub returns : goal.returns
returns c = let m = c.is_member in opens-both c.if-p-right-lt2.false m.auto.notes m.ensures c.requires c.if-is_member.false c.narrow.ensures c.narrow-2.ensures
