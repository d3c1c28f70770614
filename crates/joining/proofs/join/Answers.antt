-- By the first bytes of both: a law for each way out. Assumes nothing.
use Rattle.stacking.proofs.Stacks.{top_of}
use Rattle.joining.proofs.Joinings.{Pairing, paired, joins-settled, joins-skipped, joins-decided, joinable-opens, joins-open}
use native.Mathlib.Omega.{arith}
use Rattle.joining.proofs.join.Goals as goal

pub offset_bounds-notes-w : goal.offset_bounds-notes-w
offset_bounds-notes-w c = let t = top_of c.requires.pair.stack in omega arith

pub bounds-notes-w : goal.bounds-notes-w
bounds-notes-w c = let t = top_of c.requires.pair.stack in omega arith

pub overflow_add-m : goal.overflow_add-m
overflow_add-m c = let t = top_of c.requires.pair.stack in let e = c.from-l.ensures in omega arith

pub offset_bounds-notes-m : goal.offset_bounds-notes-m
offset_bounds-notes-m c = let t = top_of c.requires.pair.stack in let e = c.from-l.ensures in omega arith

pub bounds-notes-m : goal.bounds-notes-m
bounds-notes-m c = let t = top_of c.requires.pair.stack in let u = top_of t.others in let e = c.from-l.ensures in omega arith

pub bounds-p-w : goal.bounds-p-w
bounds-p-w c = let t = top_of c.requires.pair.stack in omega arith

pub overflow_add-m-then-first-decide : goal.overflow_add-m-then-first-decide
overflow_add-m-then-first-decide c =
    let pair : let a = c.requires in Pairing a.f a.g a.others c.args.p.now c.args.notes.now c.args.w c.from-l.result c.from-r.result = paired c.requires.pair c.from-l.ensures c.from-r.ensures in
    let k = paired c.requires.pair c.from-l.ensures c.from-r.ensures in omega arith

pub push-requires : goal.push-requires
push-requires c =
    let pair : let a = c.requires in Pairing a.f a.g a.others c.args.p.now c.args.notes.now c.args.w c.from-l.result c.from-r.result = paired c.requires.pair c.from-l.ensures c.from-r.ensures in
    let k = paired c.requires.pair c.from-l.ensures c.from-r.ensures in (omega arith, omega arith, omega arith)

pub returns-then-first-decide : goal.returns-then-first-decide
returns-then-first-decide c = joins-settled c.from-l.ensures c.from-r.ensures c.requires c.if-first-decide.true c.push.ensures.0 c.push.ensures.1 c.push.ensures.2

pub returns-then-first-lt2 : goal.returns-then-first-lt2
returns-then-first-lt2 c = joins-skipped c.from-l.ensures c.from-r.ensures c.if-first-lt2.true c.if-first-decide.false

pub bounds-p-m : goal.bounds-p-m
bounds-p-m c =
    let pair : let a = c.requires in Pairing a.f a.g a.others c.args.p.now c.args.notes.now c.args.w c.from-l.result c.from-r.result = paired c.requires.pair c.from-l.ensures c.from-r.ensures in
    let k = paired c.requires.pair c.from-l.ensures c.from-r.ensures in omega arith

pub returns-then-p-m : goal.returns-then-p-m
returns-then-p-m c = joins-decided c.from-l.ensures c.from-r.ensures c.if-p-m.true

pub join_open-requires : goal.join_open-requires
join_open-requires c = joinable-opens c.from-l.ensures c.from-r.ensures c.if-first-lt2.false c.if-p-m.false c.requires

pub returns : goal.returns
returns c = joins-open c.from-l.ensures c.from-r.ensures c.if-first-lt2.false c.if-p-m.false c.join_open.ensures
