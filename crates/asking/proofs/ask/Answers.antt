-- How the state is found decides. Assumes nothing.
use mathlib.Core.Path.{◌≡◌, subst}
use mathlib.Core.Bool.{true, false}
use Rattle.state.specs.Calls.{finished_in}
use Rattle.state.specs.Opened.{Opened}
use Rattle.opening.specs.Opening.{Opens}
use Rattle.telling.proofs.Outcomes.{verdict-pending, refused-state}
use Rattle.asking.proofs.ask.Goals as goal

pub verdict-requires : goal.verdict-requires
verdict-requires c =
    let finished : let s = c.args.state.now in Opened s c.in-Finished.c × (finished_in s ≡ true) = subst (Opens c.args.state.now) c.in-Finished.is c.open-opened.ensures in
    finished

pub told-requires : goal.told-requires
told-requires c =
    let finished : let s = c.args.state.now in Opened s c.in-Finished.c × (finished_in s ≡ true) = subst (Opens c.args.state.now) c.in-Finished.is c.open-opened.ensures in
    ((finished).0, c.verdict.ensures)

pub told-requires-in-Going : goal.told-requires-in-Going
told-requires-in-Going c =
    let going : let s = c.args.state.now in Opened s c.in-Going.c × (finished_in s ≡ false) = subst (Opens c.args.state.now) c.in-Going.is c.open-opened.ensures in
    let o = going in (o.0, verdict-pending _ o.1)

pub returns-in-Broken : goal.returns-in-Broken
returns-in-Broken c = refused-state _ (subst (Opens c.args.state.now) c.in-Broken.is c.open-opened.ensures)
