-- The outline first. Assumes nothing.
use native.Mathlib.Omega.{arith}
use Rattle.rewriting.proofs.rewrite_noted.Goals as goal

pub outline-requires : goal.outline-requires
outline-requires c = let b = c.before.requires in let a = b.of in record { formula = a.formula; front = a.front; room = b.room; few = a.few }

pub to_front-requires : goal.to_front-requires
to_front-requires c =
    let b = c.requires in
    let a = b.of in
    let o = c.outline in
    let k = o.auto.notes in
    let r = b.room in
    record { formula = a.formula; front = a.front; outlined = o.ensures; room = omega arith; few = a.few }

pub returns : goal.returns
returns c = c.to_front.ensures
