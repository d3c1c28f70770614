-- How the state is found decides. Assumes nothing.
use mathlib.Core.Path.{◌≡◌, subst}
use mathlib.Core.Bool.{false}
use Rattle.state.specs.Calls.{finished_in}
use Rattle.state.specs.Opened.{Opened}
use Rattle.opening.specs.declared.Opening.{Opening}
use Rattle.opening.specs.Opening.{Opens}
use Rattle.settling.proofs.Outcomes.{refused-state, refused-finished}
use Rattle.stepping.proofs.step.Goals as goal

pub step_going-requires : goal.step_going-requires
step_going-requires c =
    let opens : (o : Opening) → c.open-opened.result ≡ o → Opens c.args.state.now o = λ o. λ e. subst (Opens c.args.state.now) e c.open-opened.ensures in
    let going : let s = c.args.state.now in Opened s c.in-Going.c × (finished_in s ≡ false) = opens _ c.in-Going.is in
    going

pub returns-in-Broken : goal.returns-in-Broken
returns-in-Broken c =
    let opens : (o : Opening) → c.open-opened.result ≡ o → Opens c.args.state.now o = λ o. λ e. subst (Opens c.args.state.now) e c.open-opened.ensures in
    refused-state _ _ (opens _ c.in-Broken.is)

pub returns-in-Finished : goal.returns-in-Finished
returns-in-Finished c =
    let opens : (o : Opening) → c.open-opened.result ≡ o → Opens c.args.state.now o = λ o. λ e. subst (Opens c.args.state.now) e c.open-opened.ensures in
    let o = opens _ c.in-Finished.is in refused-finished _ _ o.0.passes o.1
