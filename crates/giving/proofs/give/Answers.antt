-- One law of proofs/Following.antt for each way out; a state that was opened has few boards. Assumes nothing.
use mathlib.Core.Path.{refl}
use Rattle.std.proofs.lemmas.Result.{err_from_is_err_and}
use Rattle.records.proofs.Opened.{opened-sized}
use Rattle.giving.proofs.Kept.{gives-going, gives_as}
use Rattle.giving.proofs.Following.{given-outside, given-sampled, given-stepped}
use Rattle.giving.proofs.give.Goals as goal

pub union-requires : goal.union-requires
union-requires c = let z = opened-sized c.before.requires.opened in (z.long, z.few-boards)

pub returns-then-event-union : goal.returns-then-event-union
returns-then-event-union c =
    let g = c.requires in let o = g.opened in
    gives-going g (given-outside _ _ o.passes _ o.header.boards-are _ c.union.ensures c.if-event-union.true)

pub returns-in_err-sample_all : goal.returns-in_err-sample_all
returns-in_err-sample_all c =
    let o = c.requires.opened in
    let p = err_from_is_err_and c.from_residual.result c.from_residual.ensures.1 in
    rw (p.1, p.2)
    (gives_as c.in_err-sample_all.ensures
    (given-sampled _ _ o.passes _ o.header.boards-are _ c.union.ensures c.if-event-union.false _ _ _ refl c.in_err-sample_all.ensures.comes))

pub step_all-requires : goal.step_all-requires
step_all-requires c = c.in_ok-sample_all.ensures.going refl

pub returns : goal.returns
returns c =
    let o = c.requires.opened in let s = c.step_all.ensures in
    gives_as s
    (given-stepped _ _ o.passes _ o.header.boards-are _ c.union.ensures c.if-event-union.false _ _ _ _ _ o.header.slots-are refl c.in_ok-sample_all.ensures.comes s.comes)
