-- Each return is one of the ways out. Assumes nothing.
use Rattle.entering.proofs.Outcomes.{enter-known, enter-full, enter-new, append-asks}
use Rattle.entering.proofs.enter.Goals as goal

pub returns-then-k-entries : goal.returns-then-k-entries
returns-then-k-entries c = enter-known _ _ _ _ _ _ _ _ c.requires c.find-k.result c.find-k.ensures c.if-k-entries.true

pub returns-then-entries : goal.returns-then-entries
returns-then-entries c = enter-full _ _ _ _ _ _ _ _ c.requires c.find-k.result c.find-k.ensures c.if-k-entries.false c.if-entries.true

pub append-requires : goal.append-requires
append-requires c = append-asks c.args.bytes.now c.args.marks.now c.args.tokens.now c.args.stamp c.args.entries c.args.bodies.now c.args.places.now c.args.stamps.now c.requires c.if-entries.false

pub returns : goal.returns
returns c =
    let w = c.append in
    enter-new _ _ _ _ _ _ _ _ c.requires c.find-k.result c.find-k.ensures c.if-k-entries.false c.if-entries.false _ _ _ w.ensures
