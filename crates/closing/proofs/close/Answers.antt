-- The second buffer's length, then how the state is found decides: a law of proofs/Outcomes.antt for each refusal, and the call of
-- a watch that goes on. Assumes nothing.
use mathlib.Core.Path.{◌≡◌, sym, ap, subst, ◌∙◌}
use lib.ListN.{length}
use Rattle.opening.specs.declared.Opening.{Opening}
use Rattle.opening.specs.Opening.{Opens}
use Rattle.state.specs.Form.{form_in, state_length}
use Rattle.closing.proofs.Outcomes.{refused-length, refused-state, refused-finished}
use Rattle.closing.proofs.close.Goals as goal

pub returns-then-second-length : goal.returns-then-second-length
returns-then-second-length c =
    let long-is : c.length.result ≡ state_length (form_in c.args.state.now) = c.length.ensures ∙ ap state_length c.from-form.ensures in
    refused-length _ _ (λ e. c.if-second-length.true (e ∙ sym (long-is)))

pub close_going-requires : goal.close_going-requires
close_going-requires c =
    let found : (o : Opening) → c.open-opened.result ≡ o → Opens c.args.state.now o = λ o. λ e. subst (Opens c.args.state.now) e c.open-opened.ensures in
    let long-is : c.length.result ≡ state_length (form_in c.args.state.now) = c.length.ensures ∙ ap state_length c.from-form.ensures in
    let long : length c.args.second.now ≡ state_length (form_in c.args.state.now) = c.if-second-length.false ∙ long-is in
    let o = found _ c.in-Going.is in
    (o.0, o.1, long)

pub returns-in-Broken : goal.returns-in-Broken
returns-in-Broken c =
    let long-is : c.length.result ≡ state_length (form_in c.args.state.now) = c.length.ensures ∙ ap state_length c.from-form.ensures in
    let long : length c.args.second.now ≡ state_length (form_in c.args.state.now) = c.if-second-length.false ∙ long-is in
    let found : (o : Opening) → c.open-opened.result ≡ o → Opens c.args.state.now o = λ o. λ e. subst (Opens c.args.state.now) e c.open-opened.ensures in
    refused-state _ _ (long) (found _ c.in-Broken.is)

pub returns-in-Finished : goal.returns-in-Finished
returns-in-Finished c =
    let found : (o : Opening) → c.open-opened.result ≡ o → Opens c.args.state.now o = λ o. λ e. subst (Opens c.args.state.now) e c.open-opened.ensures in
    let long-is : c.length.result ≡ state_length (form_in c.args.state.now) = c.length.ensures ∙ ap state_length c.from-form.ensures in
    let long : length c.args.second.now ≡ state_length (form_in c.args.state.now) = c.if-second-length.false ∙ long-is in
    let o = found _ c.in-Finished.is in
    refused-finished _ _ (long) o.0.passes o.1
