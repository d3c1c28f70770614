-- One law for each kind of sign. Assumes nothing.
use mathlib.Core.Logic.{inl, inr}
use mathlib.Core.Path.{refl, ap}
use Rattle.building.specs.Nodes.{node_of}
use Rattle.building.proofs.Takes.{front-room, ready-as, takes-as, takes_none, takes_front, takes-infix, takes-open, takes-close, takes-digit}
use Rattle.building.proofs.gathering.take_in.Goals as goal

pub front-requires : goal.front-requires
front-requires c = let p = front-room (ap node_of c.in-Prefix.is) c.requires in record { waiting = p.0; within = p.1 }

pub push-requires : goal.push-requires
push-requires c = (ready-as c.in-Infix.is c.requires).spare

pub front-requires-in-Word : goal.front-requires-in-Word
front-requires-in-Word c = let p = front-room (ap node_of c.in-Word.is) c.requires in record { waiting = p.0; within = p.1 }

pub front-requires-in-Letter : goal.front-requires-in-Letter
front-requires-in-Letter c = let p = front-room (ap node_of c.in-Letter.is) c.requires in record { waiting = p.0; within = p.1 }

pub returns-in-Blank : goal.returns-in-Blank
returns-in-Blank c = elim c.in-Blank.is [ inl e ↦ takes-as e (takes_none (ready-as e c.requires) refl refl) | inr e ↦ takes-as e (takes_none (ready-as e c.requires) refl refl) ]

pub returns-in-Prefix : goal.returns-in-Prefix
returns-in-Prefix c =
    let e = c.in-Prefix.is in
    takes-as e (takes_front (ready-as e c.requires) _ c.unary_code.ensures refl refl refl refl c.front.auto.out c.front.ensures)

pub returns-in-Infix : goal.returns-in-Infix
returns-in-Infix c = takes-as c.in-Infix.is (takes-infix _ c.push.ensures)

pub returns-in-Open : goal.returns-in-Open
returns-in-Open c = let e = c.in-Open.is in takes-as e (takes-open _ (ready-as e c.requires) c.pop.ensures c.pop.auto.out c.saturating_sub.ensures)

pub returns-in-Close : goal.returns-in-Close
returns-in-Close c = let e = c.in-Close.is in takes-as e (takes-close (ready-as e c.requires))

pub returns-in-Word : goal.returns-in-Word
returns-in-Word c =
    let e = c.in-Word.is in
    takes-as e (takes_front (ready-as e c.requires) _ c.const_code.ensures refl refl refl refl c.front-in-Word.auto.out c.front-in-Word.ensures)

pub returns-in-Letter : goal.returns-in-Letter
returns-in-Letter c =
    let e = c.in-Letter.is in
    takes-as e (takes_front (ready-as e c.requires) _ c.prop_code.ensures refl refl refl refl c.front-in-Letter.auto.out c.front-in-Letter.ensures)

pub returns-in-Digit : goal.returns-in-Digit
returns-in-Digit c = let e = c.in-Digit.is in takes-as e (takes-digit _ _ _ (ready-as e c.requires) c.with_digit.ensures c.with_digit-in-Digit.ensures)
