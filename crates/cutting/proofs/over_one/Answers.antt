-- Each operator is a law of `Walks`; no sum is large, since the operand is not. Assumes nothing.
use mathlib.Core.Path.{refl, ap, ◌∙◌}
use Rattle.cutting.specs.Cuts.{place_by, looked_cuts}
use Rattle.cutting.proofs.Walks.{walked-not, walked_next, walked-ever, walked-few, raw-few, ever-joinable}
use Rattle.cutting.proofs.over_one.Goals as goal

pub looked-cuts-requires : goal.looked-cuts-requires
looked-cuts-requires c = walked-few c.requires

pub under_next-requires : goal.under_next-requires
under_next-requires c = raw-few c.requires

pub under_next-requires-in-Ever : goal.under_next-requires-in-Ever
under_next-requires-in-Ever c = raw-few c.requires

pub joined-requires : goal.joined-requires
joined-requires c = ever-joinable c.requires c.under_next-in-Ever.ensures

pub returns-in-Not : goal.returns-in-Not
returns-in-Not c owner f w =
    walked-not w refl refl c.in-Not.is refl refl
    (c.looked-cuts.ensures ∙ ap (looked_cuts c.args.a.part) (c.place_of.ensures ∙ ap (place_by _) w.parted.choice-is))

pub returns-in-Next : goal.returns-in-Next
returns-in-Next c owner f w = walked_next w refl refl c.in-Next.is c.under_next.ensures

pub returns-in-Ever : goal.returns-in-Ever
returns-in-Ever c owner f w = walked-ever w refl refl c.in-Ever.is c.under_next-in-Ever.ensures c.joined.ensures
