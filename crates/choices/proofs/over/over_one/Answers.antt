-- Each operator is a law of `Made`. Assumes nothing.
use Rattle.choices.proofs.Made.{one-not, one-next, one-ever}
use Rattle.choices.proofs.Packing.{more-fits}
use native.Mathlib.Omega.{arith}
use Rattle.choices.proofs.over.over_one.Goals as goal

pub returns-in-Not : goal.returns-in-Not
returns-in-Not c = one-not c.requires c.in-Not.is

pub returns-in-Next : goal.returns-in-Next
returns-in-Next c = one-next c.requires c.in-Next.is c.over_next.ensures

pub returns-in-Ever : goal.returns-in-Ever
returns-in-Ever c = one-ever c.requires c.in-Ever.is c.over_ever.ensures

pub overflow_add-result : goal.overflow_add-result
overflow_add-result c = record { fits = more-fits c.args.m c.requires.short (omega arith) }
